-- What ties the code of the rules to the rules, which the proofs of this crate and of the crates above it cite.
pub mod Rows
pub mod Steps
pub mod CoreClasses
pub mod ByReading
pub mod Tight
