-- The laws of the lent tables, which the proofs of this crate and of the crates above it cite.
pub mod Chains
pub mod Means
pub mod Sizes
pub mod NameBytes
pub mod Zeros
pub mod Stores
pub mod Tight
