-- The bill: a sheet as rows, its text, and the line that tells a verdict.
pub mod Rows
pub mod Text
pub mod Scale
pub mod Verdict
pub mod Reading
