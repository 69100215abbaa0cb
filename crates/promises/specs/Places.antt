-- Where an element stands in a list.
use Rattle.std.specs.Prelude.{Bool, cond, List, [], ◌∷◌, ℕ, suc, None, Some, Option}
use Rattle.text.specs.Bytes.{same_bytes}
use Rattle.text.specs.Lists.{any}
use Rattle.rules.specs.Event.{Event}
use Rattle.rules.specs.History.{names}

module _ {A : Type 0} where
  -- the place of the first element that passes the test; the length where none does
  unfoldable pub place : (A → Bool) → List A → ℕ
  place f [] = 0
  place f (x ∷ xs) = cond (f x) 0 (suc (place f xs))

  unfoldable pub seek : (A → Bool) → List A → Option ℕ
  seek f xs = cond (any f xs) (Some (place f xs)) None

-- the row of a name: "in order of first mention"
abbrev pub row_of : List Event → List ℕ → ℕ
row_of h n = place (same_bytes n) (names h)
