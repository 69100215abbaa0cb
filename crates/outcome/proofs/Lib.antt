-- The laws of the outcome, which the proofs of this crate and of the crates above it cite.
pub mod AtEnd
pub mod Outcomes
pub mod Wholes
pub mod Tight
