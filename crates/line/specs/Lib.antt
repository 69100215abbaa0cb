-- What one line of a trace is, after document 01 and 000: its rules, how it is read and how it is written.
pub mod Answer
pub mod Parameter
pub mod Event
pub mod Reading
pub mod Condition
pub mod Writing
