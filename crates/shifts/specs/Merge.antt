-- FOR THE CODE ALONE: two sections in the order of their names, walked side by side. `Merges.add_step` says that this gives the rows of the sum.
use Rattle.std.specs.Prelude.{cond, List, [], ◌∷◌, ℕ, get_or}
use Rattle.bill.specs.Rows.{Row}
use Rattle.std.specs.declared.cmp.Ordering.{Ordering}
use Rattle.std.specs.declared.cmp.Ordering.TheVariants.{Less, Equal, Greater}
use Rattle.std.specs.Ordering.{is_le, is_ge}
use Rattle.sorting.specs.Order.{Name, order}
use Rattle.shifts.specs.Sum.{plus}

-- whose name comes next: that of the first section alone, of both, of the second alone
abbrev pub next_of : List Name → List Name → Ordering
next_of [] ms = Greater
next_of (n ∷ ns) [] = Less
next_of (n ∷ ns) (m ∷ ms) = order n m

-- how many rows of the first section that takes, and of the second
abbrev pub left_step : Ordering → ℕ
left_step o = cond (is_le o) 1 0

abbrev pub right_step : Ordering → ℕ
right_step o = cond (is_ge o) 1 0

-- the row of the sum then, of the rows r and q that stand first; x and y for a name that is missing
abbrev pub row_by : Ordering → List ℕ → List ℕ → Row → Row → Row
row_by Less x y r q = record { name = r.name; figures = plus r.figures y }
row_by Equal x y r q = record { name = r.name; figures = plus r.figures q.figures }
row_by Greater x y r q = record { name = q.name; figures = plus x q.figures }

abbrev pub no_row : Row
no_row = record { name = []; figures = [] }

abbrev pub next_row : Ordering → List ℕ → List ℕ → List Row → List Row → Row
next_row o x y rs qs = row_by o x y (get_or rs 0 no_row) (get_or qs 0 no_row)
