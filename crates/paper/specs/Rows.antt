-- FOR THE CODE ALONE: a row of either section by its line.
use Rattle.std.specs.Prelude.{Bool, ◌&&◌, List, ℕ, eqb, leb, length, Option}
use Rattle.text.specs.Name.{is_name}
use Rattle.text.specs.Number.{number_if}
use Rattle.text.specs.Pieces.{pieces}
use Rattle.bill.specs.Reading.{word_of, row_from, row_exact}
use Rattle.shifts.specs.Sound.{total, first}

-- a line of k words, the first of them a name
unfoldable pub named_of : ℕ → List ℕ → Bool
named_of k line = eqb (length (pieces 32 line)) k && is_name (word_of line 0)

-- a line with a name and k figures
unfoldable pub row_of : ℕ → List ℕ → Bool
row_of k line = is_name (word_of line 0) && (eqb (length (row_from line).figures) k && row_exact line)

-- a core's row whose figures make the span
unfoldable pub core_ok : ℕ → List ℕ → Bool
core_ok span line = row_of 3 line && eqb (total (row_from line).figures) span

unfoldable pub core_held : ℕ → List ℕ → Option ℕ
core_held span line = number_if (core_ok span line) (first (row_from line).figures)

-- a process's row whose charge is at most left
unfoldable pub process_charge : ℕ → List ℕ → Option ℕ
process_charge left line = number_if (row_of 1 line && leb (first (row_from line).figures) left) (first (row_from line).figures)
