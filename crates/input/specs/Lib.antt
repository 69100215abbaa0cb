-- What is read of standard input, and the text of it.
pub mod Reads
pub mod Whole
