-- Many sheets: one by itself, which is its own sum where it may be added, and the others added to it from the left.
use Rattle.std.specs.Prelude.{Bool, true, false, List, ℕ, is_some}
use Rattle.shifts.specs.Sound.{sound_sheet}
use Rattle.shifts.specs.Sum.{Total, Text, Refusal, add_all}

-- whether a text may be added
unfoldable pub is_sound : List ℕ → Bool
is_sound t = is_some (sound_sheet t)

-- "malformed" is 21, of one sheet too
abbrev pub text_if : Bool → List ℕ → Total
text_if true t = Text t
text_if false t = Refusal 21

unfoldable pub alone : List ℕ → Total
alone t = text_if (is_sound t) t

-- `Many.all_added` says that testing the first by itself changes no sum of two or more
abbrev pub sum_from : List ℕ → List (List ℕ) → Total
sum_from first others = add_all (alone first) others

-- not refused
abbrev pub HasText : Total → Type 0
HasText (Text t) = Unit {0}
HasText (Refusal n) = ⊥
