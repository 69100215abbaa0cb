-- Words of fixed lists: the first thing of a list whose word the bytes are.
use Rattle.std.specs.Prelude.{ℕ, Bool, true, false, List, [], ◌∷◌}
use Rattle.text.specs.Bytes.{same_bytes}

module _ {A : Type 0} where
  -- the first where the test holds, and else the second: `cond`, but as it is written until it is unfolded, so that the law of a chain of words
  -- (`step`, proofs/Chains) finds the parts of each
  unfoldable pub pick : Bool → A → A → A
  pick true x y = x
  pick false x y = y

module _ {A B : Type 0} where
  -- `found x` for the first x whose word s is, and `other` where there is none
  abbrev pub first_named : (A → List ℕ) → (A → B) → List A → B → List ℕ → B
  first_named word found [] other s = other
  first_named word found (x ∷ xs) other s = pick (same_bytes s (word x)) (found x) (first_named word found xs other s)
