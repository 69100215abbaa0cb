-- FOR THE CODE ALONE: the rows of two sections added, the figures of each row as three numbers.
use Rattle.std.specs.Prelude.{◌≡◌, Bool, true, ◌&&◌, List, [], ◌∷◌, map, ℕ, ◌+◌, ◌^◌, ◌≤◌, ◌<◌, leb, length, drop}
use Rattle.text.specs.Lists.{all}
use Rattle.bill.specs.declared.section.Section.{Section}
use Rattle.bill.specs.declared.section.Section.TheVariants.{Cores, Processes}
use Rattle.bill.specs.Rows.{Row}
use Rattle.bill.specs.Text.{row_text, rows_text}
use Rattle.bill.specs.Reading.{row_from}
use Rattle.sorting.specs.Order.{Name}
use Rattle.sorting.specs.Sets.{rising}
use Rattle.std.specs.declared.cmp.Ordering.{Ordering}
use Rattle.shifts.specs.Sum.{add_rows}
use Rattle.shifts.specs.Merge.{left_step, right_step, next_row}
use Rattle.adding.specs.declared.put.Figures.{Figures}
use Rattle.paper.specs.Lines.{line_from, row_at, amount_in, name_at}
use Rattle.paper.specs.Rows.{row_of}

abbrev pub figures_at : List ℕ → ℕ → Figures
figures_at text p = let line = line_from text p in record { first = amount_in line 1; second = amount_in line 2; third = amount_in line 3 }

abbrev pub none_for : ℕ → Figures
none_for span = record { first = 0; second = 0; third = span }

abbrev pub sum_of : Figures → Figures → Figures
sum_of f g = record { first = f.first + g.first; second = f.second + g.second; third = f.third + g.third }

-- so that a sum of two fits
pub record Small (f : Figures) : Type 0 where
  pub first : f.first ≤ 2 ^ 62
  pub second : f.second ≤ 2 ^ 62
  pub third : f.third ≤ 2 ^ 62

-- those that a row of the section shows
abbrev pub shown : Section → Figures → List ℕ
shown Cores f = f.first ∷ f.second ∷ f.third ∷ []
shown Processes f = f.first ∷ []

abbrev pub row_with : Section → Name → Figures → Row
row_with section n f = record { name = n; figures = shown section f }

-- ---- two sections

abbrev pub width : Section → ℕ
width Cores = 3
width Processes = 1

-- a row of the section whose figures are at most 2^62
abbrev pub all_small : List ℕ → Bool
all_small = all (λ x. leb x (2 ^ 62))

unfoldable pub fine_row : Section → List ℕ → Bool
fine_row section line = row_of (width section) line && all_small (row_from line).figures

-- the rows that begin at these places, and those of the sum of two sections from sheets of these spans
abbrev pub rows_at : List ℕ → List ℕ → List Row
rows_at text places = map (row_at text) places

abbrev pub sum_rows : Section → List Row → ℕ → List Row → ℕ → List Row
sum_rows section rs x qs y = add_rows (shown section (none_for x)) (shown section (none_for y)) rs qs

-- a section whose places are in the order of its names, with rows that may be added
pub record InOrder (section : Section) (text places : List ℕ) : Type 0 where
  pub in_order : rising (map (name_at text) places) ≡ true
  pub fine : all (fine_row section) (map (line_from text) places) ≡ true

-- two sections, from sheets of spans that may be added, whose sum has room
pub record Merging (section : Section) (s left : List ℕ) (x : ℕ) (t right : List ℕ) (y room : ℕ) : Type 0 where
  pub first : InOrder section s left
  pub second : InOrder section t right
  pub first_span : x ≤ 2 ^ 62
  pub second_span : y ≤ 2 ^ 62
  pub fits : length (rows_text (sum_rows section (rows_at s left) x (rows_at t right) y)) ≤ room

-- the row that comes next is there, may be added, and has room
pub record Next (section : Section) (s left : List ℕ) (x : ℕ) (t right : List ℕ) (y i j : ℕ) (o : Ordering) (room at : ℕ) : Type 0 where
  pub first : InOrder section s left
  pub second : InOrder section t right
  pub first_span : x ≤ 2 ^ 62
  pub second_span : y ≤ 2 ^ 62
  pub left_is : left_step o ≡ 1 → i < length left
  pub right_is : right_step o ≡ 1 → j < length right
  pub fits : at + length (row_text (next_row o (shown section (none_for x)) (shown section (none_for y)) (drop i (rows_at s left)) (drop j (rows_at t right)))) ≤ room
