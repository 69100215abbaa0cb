-- What is printed of a trace, and how it is taken chunk by chunk.
pub mod Report
pub mod Chunk
