-- Document 01's table of numbered answers, by call: the numbers that each call gives, over any bytes, any tables and any output.
use Rattle.std.specs.Prelude.{List, [], ◌∷◌, ℕ}
use Rattle.line.specs.Writing.{writer_numbers}

-- `read`: "The reader answers from its line alone". 4 and 8 to 14 need the lines before, 15 and 16 an output or a table
abbrev pub read_answers : List ℕ
read_answers = 0 ∷ 1 ∷ 2 ∷ 3 ∷ 5 ∷ 6 ∷ 7 ∷ []

-- `write`
abbrev pub write_answers : List ℕ
write_answers = writer_numbers

-- `decide`, an event line that was read: 1 to 7 are decided before it, and it looks at no entry's range
abbrev pub decide_answers : List ℕ
decide_answers = 0 ∷ 8 ∷ 9 ∷ 10 ∷ 11 ∷ 12 ∷ 13 ∷ 14 ∷ 15 ∷ []

-- `fresh`: "A fresh start .. never gives 16"
abbrev pub fresh_answers : List ℕ
fresh_answers = 0 ∷ 15 ∷ []

-- `feed`, `feed_chunk` and `outcome_now`: all of the table
abbrev pub feed_answers : List ℕ
feed_answers = 0 ∷ 1 ∷ 2 ∷ 3 ∷ 4 ∷ 5 ∷ 6 ∷ 7 ∷ 8 ∷ 9 ∷ 10 ∷ 11 ∷ 12 ∷ 13 ∷ 14 ∷ 15 ∷ 16 ∷ []

-- `outcome_of`: "A fresh start, a whole trace's too, overwrites what the tables held and never gives 16."
abbrev pub trace_answers : List ℕ
trace_answers = 0 ∷ 1 ∷ 2 ∷ 3 ∷ 4 ∷ 5 ∷ 6 ∷ 7 ∷ 8 ∷ 9 ∷ 10 ∷ 11 ∷ 12 ∷ 13 ∷ 14 ∷ 15 ∷ []

-- `put_outcome`: the text of any outcome, or "one too short is 15"
abbrev pub print_answers : List ℕ
print_answers = 0 ∷ 15 ∷ []

-- `report`: 15 and 16 of the tables too
abbrev pub report_answers : List ℕ
report_answers = 0 ∷ 15 ∷ 16 ∷ []

-- "15 and 16 write nothing and are not remembered."
abbrev pub write_nothing : List ℕ
write_nothing = 15 ∷ 16 ∷ []
