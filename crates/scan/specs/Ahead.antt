-- The next line of a chunk with what its bytes tell before it is read: whether they are all plain, and where its commas stand.
use Rattle.std.specs.Prelude.{ℕ, Bool, cond, List, length, nat_le, None, Some, Option}
use Rattle.text.specs.Name.{all_plain}
use Rattle.walk.specs.Lines.{next_from}
use Rattle.fields.specs.Part.{part_from, commas_of}
use Rattle.scan.specs.declared.ahead.Ahead.{Ahead}

-- the line at an index; where the first argument says so, what is left is one line as it stands
unfoldable pub line_from : Bool → List ℕ → ℕ → Option (ℕ × ℕ)
line_from whole s at = cond whole (cond (nat_le at (length s)) (Some (length s, length s)) None) (next_from s at)

abbrev pub told_of : List ℕ → ℕ → Option (ℕ × ℕ) → Option Ahead
told_of s at (Some (end, start)) = Some (record { end = end; start = start; plain = all_plain (part_from s at end); commas = commas_of (part_from s at end) })
told_of s at None = None

unfoldable pub ahead_of : Bool → List ℕ → ℕ → Option Ahead
ahead_of whole s at = told_of s at (line_from whole s at)
