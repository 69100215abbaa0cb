-- What the parts of a line are, and where they stand.
pub mod Part
