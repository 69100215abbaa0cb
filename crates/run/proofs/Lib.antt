-- The laws of reading and printing.
pub mod Turns
pub mod Carried
pub mod Buffered
pub mod Reports
pub mod Tight
pub mod Fits
