-- The laws of reading standard input and of its text.
pub mod Sizes
pub mod Steps
pub mod Grown
pub mod Texts
pub mod Tight
