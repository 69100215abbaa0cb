-- FOR THE CODE ALONE: the rows of a section by their lines, tested one after the other.
use Rattle.std.specs.Prelude.{Bool, ◌&&◌, List, map, ℕ, eqb, Option}
use Rattle.text.specs.Number.{number_if}
use Rattle.text.specs.Lists.{all}
use Rattle.bill.specs.Reading.{row_from}
use Rattle.shifts.specs.Sound.{firsts}
use Rattle.paper.specs.Rows.{row_of, core_ok}

unfoldable pub all_held : ℕ → List (List ℕ) → Option ℕ
all_held span ls = number_if (all (core_ok span) ls) (firsts (map row_from ls))

unfoldable pub charges_make : ℕ → List (List ℕ) → Bool
charges_make held ls = all (row_of 1) ls && eqb (firsts (map row_from ls)) held

-- each row is one of its section, each core's figures make the span, and the charges all held ticks
unfoldable pub sums_right : ℕ → List (List ℕ) → List (List ℕ) → Bool
sums_right span cs ps = all (core_ok span) cs && charges_make (firsts (map row_from cs)) ps
