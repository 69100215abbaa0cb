-- Sorting adds nothing: things in order are at most as many as they were.
use mathlib.Core.Path.{◌≡◌, refl}
use mathlib.Core.List.{List, [], ◌∷◌, ◌++◌}
use Prim.Native.Nat.{◌+◌, ◌≤◌}
use native.Mathlib.Omega.{arith}
use lib.ListN.{length, length-append}
use Rattle.std.specs.declared.cmp.Ordering.{Ordering}
use Rattle.std.specs.declared.cmp.Ordering.TheVariants.{Less, Equal, Greater}
use Rattle.sorting.specs.Order.{Name, order}
use Rattle.sorting.specs.Sets.{insert_by, gather_by, sorted_by}

module _ {A : Type 0} (key : A → Name) where
  insert_most : (x : A) (l : List A) → length (insert_by key x l) ≤ length l + 1
  unfolding insert_by
  insert_most x [] = omega arith
  insert_most x (y ∷ l) = go (order (key x) (key y)) refl (insert_most x l)
    where
      go : (o : Ordering) → order (key x) (key y) ≡ o → length (insert_by key x l) ≤ length l + 1 → length (insert_by key x (y ∷ l)) ≤ length (y ∷ l) + 1
      go Less e ih = rw e (omega arith)
      go Equal e ih = rw e (omega arith)
      go Greater e ih = rw e (omega arith)

  pub sorted_most : (xs : List A) → length (sorted_by key xs) ≤ length xs
  unfolding gather_by
  sorted_most [] = omega arith
  sorted_most (x ∷ xs) = let h = sorted_most xs in omega (arith, insert_most x (sorted_by key xs))

  pub sorted_most_two : (xs ys : List A) → length (sorted_by key (xs ++ ys)) ≤ length xs + length ys
  sorted_most_two xs ys = omega (arith, sorted_most (xs ++ ys), length-append xs ys)
