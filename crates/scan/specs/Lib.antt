-- The next line of a chunk with the places of its commas, and how the code tells it from 128 bytes.
pub mod Ahead
pub mod Window
pub mod Quick
