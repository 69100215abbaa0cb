-- What the program writes.
pub mod Line
