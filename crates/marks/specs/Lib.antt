-- A search, and many answers to a question of yes or no in one number.
pub mod First
pub mod Marks
