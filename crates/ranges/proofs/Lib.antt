-- The laws of the ranges, which the proofs of this crate and of the crates above it cite.
pub mod UpTo
pub mod States
pub mod Tested
pub mod Valid
pub mod FreshTables
pub mod Tight
pub mod Examples
