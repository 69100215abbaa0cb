-- FOR THE CODE ALONE: what the lines of a sheet that are no rows tell.
use Rattle.std.specs.Prelude.{Bool, true, false, ◌&&◌, List, ℕ, leb, None, Some, Option}
use Rattle.text.specs.Number.{number_if}
use Rattle.text.specs.Sizes.{max_time}
use Rattle.bill.specs.Reading.{scale_in, span_in, head_exact, count_in, count_exact}

abbrev pub head_if : Bool → ℕ → ℕ → Option (ℕ × ℕ)
head_if true scale span = Some (scale, span)
head_if false scale span = None

unfoldable pub head_of : List ℕ → Option (ℕ × ℕ)
head_of line = head_if (head_exact line && leb (span_in line) max_time) (scale_in line) (span_in line)

unfoldable pub count_of : List ℕ → List ℕ → ℕ → Option ℕ
count_of head line max = number_if (count_exact head line && leb (count_in head line) max) (count_in head line)
