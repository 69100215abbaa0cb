-- The laws of a search and of answers in numbers, which the crates above cite.
pub mod Before
pub mod Firsts
pub mod Marked
pub mod Lasts
pub mod Tight
