-- What becomes of an event line: what the rows that were looked up for it say, and what is decided from that.
pub mod Known
pub mod Decide
pub mod PlanCode
