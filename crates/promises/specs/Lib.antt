-- What the promises are read with: tables that show a history, where each entry is what the lines taken say; the sheet and the outcome of a list of lines; and
-- document 01's table of answers by call.
pub mod Places
pub mod Shown
pub mod Taken
pub mod Fed
pub mod Sheets
pub mod Outcomes
pub mod Answers
pub mod Shifts
