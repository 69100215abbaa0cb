-- What taking an event line stores in the tables.
pub mod Store
