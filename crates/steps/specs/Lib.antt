-- For the code alone: how it searches a chart, and how it decides a line's place from its reading.
pub mod Rows
pub mod PlaceCode
