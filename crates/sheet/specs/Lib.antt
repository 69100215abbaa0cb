-- The charge sheet that the tables show: its figures and its rows.
pub mod Figure
pub mod Sheet
