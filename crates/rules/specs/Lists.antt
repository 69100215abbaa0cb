-- A few functions on lists and on what may be missing.
use Rattle.std.specs.Prelude.{ℕ, zero, suc, Bool, true, false, List, [], ◌∷◌, ◌++◌, eqb, Option, None, Some}
use Rattle.text.specs.Lists.{any}

abbrev pub one_if : Bool → ℕ
one_if true = 1
one_if false = 0

module _ {A : Type 0} where
  abbrev pub if_zero : ℕ → A → A → A
  if_zero zero x y = x
  if_zero (suc n) x y = y

  -- x in front where the test passes
  abbrev pub keep : Bool → A → List A → List A
  keep true x xs = x ∷ xs
  keep false x xs = xs

  -- x where the test passes
  abbrev pub when : Bool → A → Option A
  when true x = Some x
  when false x = None

  abbrev pub or_else : Option A → Option A → Option A
  or_else None o = o
  or_else (Some x) o = Some x

  -- the elements that pass the test
  abbrev pub only : (A → Bool) → List A → List A
  only f [] = []
  only f (x ∷ xs) = keep (f x) x (only f xs)

  -- the list with each of the others that it lacks added at its end
  abbrev pub add_unless : Bool → List A → A → List A
  add_unless true xs x = xs
  add_unless false xs x = xs ++ (x ∷ [])

  abbrev pub add_new : (A → A → Bool) → List A → A → List A
  add_new eq xs x = add_unless (any (eq x) xs) xs x

  abbrev pub add_all : (A → A → Bool) → List A → List A → List A
  add_all eq xs [] = xs
  add_all eq xs (y ∷ ys) = add_all eq (add_new eq xs y) ys

abbrev pub member : ℕ → List ℕ → Bool
member x = any (eqb x)

module _ {A B : Type 0} where
  -- the answer of the first element that has one. Histories have the newest event first, so there it is the latest answer
  abbrev pub latest : (A → Option B) → List A → Option B
  latest f [] = None
  latest f (x ∷ xs) = or_else (f x) (latest f xs)

  -- that of the last element that has one: of a history the earliest
  abbrev pub earliest : (A → Option B) → List A → Option B
  earliest f [] = None
  earliest f (x ∷ xs) = or_else (earliest f xs) (f x)
