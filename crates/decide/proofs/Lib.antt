-- The laws of what is decided, which the proofs of this crate and of the crates above it cite.
pub mod Counts
pub mod Plans
pub mod Decided
pub mod Tight
