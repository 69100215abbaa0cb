-- The laws of dates, notes and source rules.
pub mod Dates
pub mod Notes
pub mod Rules
pub mod Tight
