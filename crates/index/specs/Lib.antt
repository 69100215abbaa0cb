-- The home of a name, the index of the names, and how many of its places are taken.
pub mod Hash
pub mod Index
pub mod Taken
