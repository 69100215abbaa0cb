-- The laws of a line that is told by its marks.
pub mod Windows
pub mod Stretch
pub mod Ends
pub mod Places
pub mod Told
pub mod Right
pub mod Nexts
pub mod Tight
