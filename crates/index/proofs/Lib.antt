-- The laws of the home of a name and of the index, which the crates above cite.
pub mod Folds
pub mod Tally
pub mod Right
pub mod Indexes
pub mod Examples
pub mod Tight
