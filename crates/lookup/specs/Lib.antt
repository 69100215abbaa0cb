-- What a look-up finds, and what is looked up for an event line.
pub mod Find
pub mod LookedUp
