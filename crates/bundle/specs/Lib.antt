-- A container of traces.
pub mod Container
