-- The laws of sheets that arguments name.
pub mod Steps
pub mod Grown
pub mod Answers
pub mod Printing
pub mod Tight
pub mod AnyOrder
