-- The laws of names in order.
pub mod Orders
pub mod Sets
pub mod Rising
pub mod Keys
pub mod Meets
pub mod Places
pub mod Counts
pub mod Tight
