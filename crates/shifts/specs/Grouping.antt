-- Sheets added in some grouping: each sum is of two, which are sheets or sums themselves. 02, No. 12: "either way of adding three sheets", and of any number.
use Rattle.std.specs.Prelude.{List, [], ◌∷◌, ◌++◌, ℕ, Option, None, Some}
use Rattle.shifts.specs.Sum.{Total, Text, Refusal, add_totals}
use Rattle.shifts.specs.Many.{alone}

pub data Grouping : Type 0 where
  Sheet : List ℕ → Grouping
  Sum : Grouping → Grouping → Grouping

-- its sheets, from the left
abbrev pub sheets_of : Grouping → List (List ℕ)
sheets_of (Sheet t) = t ∷ []
sheets_of (Sum g h) = sheets_of g ++ sheets_of h

-- what it comes to: a refusal anywhere refuses it
abbrev pub comes_to : Grouping → Total
comes_to (Sheet t) = alone t
comes_to (Sum g h) = add_totals (comes_to g) (comes_to h)

-- "the same bytes or both ways refuse, though perhaps with different reasons": the bytes, or none for any reason
abbrev pub bytes_of : Total → Option (List ℕ)
bytes_of (Text t) = Some t
bytes_of (Refusal n) = None

-- each sheet added to the sum of all before it
abbrev pub from_left : Grouping → List (List ℕ) → Grouping
from_left g [] = g
from_left g (t ∷ ts) = from_left (Sum g (Sheet t)) ts
