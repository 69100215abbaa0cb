-- The laws of a line of a sheet, by the functions that cite them.
pub mod Numbers
pub mod LineWalk
pub mod Heads
pub mod RowTests
pub mod Tight
