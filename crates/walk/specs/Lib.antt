-- What the lines of a chunk and of a whole trace are.
pub mod Lines
