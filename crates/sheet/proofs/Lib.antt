-- The laws of the charge sheet.
pub mod Rooms
pub mod Written
pub mod Rows
pub mod Short
