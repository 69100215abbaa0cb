-- One line of a printed sheet, as the code reads it.
pub mod Lines
pub mod Heads
pub mod Rows
