-- The laws of the stores, which the proofs of this crate and of the crates above it cite.
pub mod Stores
pub mod PlaceStores
pub mod Tight
