-- The laws of the look-ups, which the proofs of this crate and of the crates above it cite.
pub mod Found
pub mod Gathered
pub mod Seeks
pub mod Walks
pub mod Compared
pub mod Added
pub mod Tight
