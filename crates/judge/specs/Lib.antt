-- The judge over lent tables: one line, and many lines.
pub mod Feed
