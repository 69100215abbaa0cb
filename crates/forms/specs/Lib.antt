-- The closer forms of a line's parts, after document 01: dates, notes, and the rules on sources, instances and notes.
pub mod Note
pub mod Rule
pub mod Date
