-- The sheets that arguments name, added: what reading and adding leave.
pub mod Totals
