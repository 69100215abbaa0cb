-- The laws of a container, and how tight its contract is.
pub mod Apart
pub mod Tight
