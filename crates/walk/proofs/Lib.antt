-- The laws of lines, which the proofs of this crate and of the crates above it cite.
pub mod Cuts
pub mod Chunks
pub mod Nexts
pub mod Examples
pub mod Tight
