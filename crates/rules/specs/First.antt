-- The first refusal, of any things (events, lines) that come one after another: `answer h x` is the number given to x after the history h, 0 where x is taken.
-- A history is the list of what was taken, THE NEWEST FIRST; what comes after it is a list, THE OLDEST FIRST.
use Rattle.std.specs.Prelude.{◌≡◌, ℕ, ◌+◌, ◌≤◌, length}
use mathlib.Core.List.{List, [], ◌∷◌, ◌++◌, reverse_aux}
use Rattle.rules.specs.Lists.{if_zero}

module _ {A : Type 0} (answer : List A → A → ℕ) where
  -- each of a history was answered 0 after those before it
  abbrev pub AllTaken : List A → Type 0
  AllTaken [] = Unit {0}
  AllTaken (x ∷ h) = (answer h x ≡ 0) × AllTaken h

  -- The history after the list xs that came after the history h.
  -- "A refused line changes nothing but the remembered verdict: number and line .. Further lines get that verdict again."
  unfoldable pub taken_of : List A → List A → List A
  taken_of h [] = h
  taken_of h (x ∷ xs) = if_zero (answer h x) (taken_of (x ∷ h) xs) h

  -- "number and line, counted from 1": the first refusal and its place; 0 and 0 where all are taken
  unfoldable pub first_refusal : List A → List A → ℕ × ℕ
  first_refusal h [] = (0, 0)
  first_refusal h (x ∷ xs) = if_zero (answer h x) (first_refusal (x ∷ h) xs) (answer h x, length h + 1)

  -- The first of xs after h that is refused, where v is the refusal and t what is then taken: all before it, and no other.
  pub record FirstRefused (h xs : List A) (v : ℕ × ℕ) (t : List A) : Type 0 where
    pub before : List A
    pub first : A
    pub after : List A
    pub splits : xs ≡ before ++ (first ∷ after)
    pub place : v.1 ≡ length h + length before + 1
    pub all_taken : taken_of h before ≡ reverse_aux before h
    pub no_other : t ≡ reverse_aux before h
    pub answered : answer t first ≡ v.0
    pub refused : 1 ≤ v.0
