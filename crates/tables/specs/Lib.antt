-- The lent tables: where each entry lies, their sizes, and a fresh start.
pub mod Entry
pub mod Sized
pub mod Fresh
