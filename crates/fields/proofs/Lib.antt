-- The laws of the parts of a line, which the proofs of this crate and of the crates above it cite.
pub mod Parts
pub mod Tight
