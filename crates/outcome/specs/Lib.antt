-- The outcome of the lines taken: the verdict if the trace ended now, and what asking for it with the sheet leaves.
pub mod AtEnd
pub mod Outcome
