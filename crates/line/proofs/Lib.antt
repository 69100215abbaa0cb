-- The laws of a line, which the proofs of this crate and of the crates above it cite.
pub mod Lines
pub mod Plain
pub mod Events
pub mod Texts
pub mod Lowest
pub mod Answers
pub mod Said
pub mod Written
pub mod Trips
pub mod Outputs
pub mod Unique
pub mod Examples
pub mod Tight
