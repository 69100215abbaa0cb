-- The laws of words, which the proofs of this crate and of the crates above it cite.
pub mod Chains
pub mod Matched
pub mod Actions
pub mod Tags
pub mod Classes
pub mod Found
pub mod Tight
