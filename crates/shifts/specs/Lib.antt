-- Bills of several shifts: which are taken, and their sum.
pub mod Sound
pub mod Sum
pub mod Sizes
pub mod Many
pub mod Together
pub mod Grouping
pub mod Empty
pub mod Merge
