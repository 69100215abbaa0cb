-- Tests and sums over lists: of two lists, one behind the other, and sums by what is summed.
use Rattle.std.proofs.Common.{◌≡◌, ℕ, ◌+◌, Bool, ◌||◌, List, [], ◌∷◌, ◌++◌, sym, refl, arith}
use mathlib.Core.Bool.{or_assoc}
use Rattle.text.specs.Lists.{any, sum_over}

module _ {A : Type 0} where
  pub any_append : (p : A → Bool) (xs ys : List A) → any p (xs ++ ys) ≡ any p xs || any p ys
  any_append p [] ys = refl
  any_append p (x ∷ xs) ys = rw (any_append p xs ys) (sym (or_assoc (p x) (any p xs) (any p ys)))

  pub sum_append : (f : A → ℕ) (xs ys : List A) → sum_over f (xs ++ ys) ≡ sum_over f xs + sum_over f ys
  sum_append f [] ys = omega arith
  sum_append f (x ∷ xs) ys = omega (arith, sum_append f xs ys)

module _ {A : Type 0} (f g : A → ℕ) where
  pub sum_cong : (xs : List A) → ((x : A) → f x ≡ g x) → sum_over f xs ≡ sum_over g xs
  sum_cong [] q = refl
  sum_cong (x ∷ xs) q = omega (arith, q x, sum_cong xs q)

  pub sum_add : (xs : List A) → sum_over (λ x. f x + g x) xs ≡ sum_over f xs + sum_over g xs
  sum_add [] = refl
  sum_add (x ∷ xs) = omega (arith, sum_add xs)
