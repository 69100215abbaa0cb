-- How the walk through the pairs goes on.
pub mod Steps
