-- The ranges of the lent tables' entries, 16.
pub mod Range
pub mod IndexCode
