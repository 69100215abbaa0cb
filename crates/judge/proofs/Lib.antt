-- The laws of the judge, which the proofs of this crate and of the crates above it cite.
pub mod Sizes
pub mod Feeds
pub mod Traces
pub mod Tight
