-- FOR THE CODE ALONE: a line by the place where it begins, the row that it shows, and its figures as far as they may be added.
use Rattle.std.specs.Prelude.{List, ℕ, ◌^◌, take, drop, unwrap_or}
use Rattle.text.specs.Bytes.{to_byte}
use Rattle.text.specs.Number.{number_of}
use Rattle.bill.specs.Rows.{Row}
use Rattle.bill.specs.Reading.{word_of, row_from}
use Rattle.sorting.specs.Order.{Name}

-- the line that begins at an index
unfoldable pub line_from : List ℕ → ℕ → List ℕ
line_from text p = take (to_byte 10 (drop p text)) (drop p text)

-- the row that begins there
abbrev pub row_at : List ℕ → ℕ → Row
row_at text p = row_from (line_from text p)

-- .. and its name
abbrev pub name_at : List ℕ → ℕ → Name
name_at text p = (row_at text p).name

-- word k as a figure, 0 where it is none of at most 2^62
unfoldable pub amount_in : List ℕ → ℕ → ℕ
amount_in line k = unwrap_or (number_of (word_of line k) (2 ^ 62)) 0
