-- The sheet of a list of lines, and what adds up in it.
use Rattle.std.specs.Prelude.{◌≡◌, List, [], ◌∷◌, ℕ, ◌+◌, get_or}
use Rattle.bill.specs.Rows.{Row, Sheet}
use Rattle.rules.specs.Sheet.{sheet}
use Rattle.rules.specs.Lines.{events_of}
use Rattle.rules.specs.Trace.{taken_lines}

-- the sheet of the events of the lines taken: all lines, or those before the first refused one
abbrev pub sheet_of : List (List ℕ) → Sheet
sheet_of ls = sheet (events_of (taken_lines [] ls))

abbrev pub figure : ℕ → Row → ℕ
figure i r = get_or r.figures i 0

-- the three figures of each row add up to n
abbrev pub Balanced : ℕ → List Row → Type 0
Balanced n [] = Unit {0}
Balanced n (r ∷ rs) = (figure 0 r + figure 1 r + figure 2 r ≡ n) × Balanced n rs
