-- Where a thing goes among others in the order of their names: to the place behind those with lesser names and before those with greater ones, which a search by halves finds.
use mathlib.Core.Path.{◌≡◌, refl, ap, ◌∙◌}
use mathlib.Core.Bool.{true, false, or-true}
use mathlib.Core.List.{List, [], ◌∷◌, ◌++◌, map}
use Prim.Native.Nat.{ℕ, zero, suc, ◌≤◌, ◌<◌}
use native.Mathlib.Numerals.{add-one}
use native.Mathlib.Omega.{arith}
use lib.ListN.{length, take, drop, length-map, length-append, length-take, length-drop}
use Rattle.std.specs.declared.cmp.Ordering.{Ordering}
use Rattle.std.specs.declared.cmp.Ordering.TheVariants.{Less, Equal, Greater}
use Rattle.std.specs.Ordering.{ordering_index}
use Rattle.std.specs.List.{HoldsAt, AllAdjacentBelow}
use Rattle.std.specs.List.Sorted.{IsPartitionPoint, IsNonDecreasingBy}
use Rattle.std.proofs.lemmas.List.Sorted.{IsNonDecreasingBy-from_all_adjacent}
use Rattle.text.proofs.Bools.{is_false, and_l, and_r}
use Rattle.sorting.specs.Order.{Name, order, is_less}
use Rattle.sorting.specs.Sets.{has, insert_by, gather_by, rising}
use Rattle.sorting.proofs.Orders.{order_same, order_less}
use Rattle.sorting.proofs.Sets.{turn, has_insert}
use Rattle.sorting.proofs.Rising.{is_less_lem, sorted_rising}
use Rattle.sorting.proofs.Keys.{map_insert}

module _ {A : Type 0} (key : A → Name) (x : A) where
  -- how the name of y stands to that of x
  abbrev pub against : A → Ordering
  against y = order (key y) (key x)

  -- ---- along things in order it rises

  index_most : (o : Ordering) → ordering_index o ≤ 2
  index_most Less = omega arith
  index_most Equal = omega arith
  index_most Greater = omega arith

  no_higher : (y z : A) → order (key y) (key z) ≡ Less → ordering_index (against y) ≤ ordering_index (against z)
  no_higher y z e = go (against z) refl
    where
      go : (o : Ordering) → against z ≡ o → ordering_index (against y) ≤ ordering_index (against z)
      go Less f = rw (order_less (key y) (key z) (key x) e f) (omega arith)
      go Equal f = rw (← order_same (key z) (key x) f, e) (omega arith)
      go Greater f = rw f (index_most (against y))

  adjacent : (l : List A) → rising (map key l) ≡ true → AllAdjacentBelow (λ y z. ordering_index (against y) ≤ ordering_index (against z)) l (length l)
  unfolding rising
  adjacent [] r k d h = absurd (omega arith)
  adjacent (y ∷ []) r k d h = absurd (omega arith)
  adjacent (y ∷ z ∷ l) r zero d h = no_higher y z (is_less_lem (order (key y) (key z)) (and_l (is_less (order (key y) (key z))) (rising (map key (z ∷ l))) r))
  adjacent (y ∷ z ∷ l) r (suc k) d h = simp add-one (simp add-one at (adjacent (z ∷ l) (and_r (is_less (order (key y) (key z))) (rising (map key (z ∷ l))) r) k d (omega arith)))

  pub rises : (l : List A) → rising (map key l) ≡ true → IsNonDecreasingBy (λ y. ordering_index (against y)) l
  rises l r = IsNonDecreasingBy-from_all_adjacent (λ y. ordering_index (against y)) l (adjacent l r)

  -- ---- the place of x

  abbrev pub PlaceIn : List A → ℕ → Type 0
  PlaceIn = IsPartitionPoint (λ y. against y ≡ Less) (λ y. against y ≡ Greater)

  pub insert_at : (l : List A) (k : ℕ) → k ≤ length l → PlaceIn l k → insert_by key x l ≡ take k l ++ x ∷ drop k l
  unfolding insert_by
  insert_at [] zero h w = refl
  insert_at [] (suc k) h w = absurd (omega arith)
  insert_at (y ∷ l) zero h w = rw (turn (key y) (key x) Greater (w.1 0 x (omega arith) (omega arith)))
  insert_at (y ∷ l) (suc k) h w =
      rw (turn (key y) (key x) Less (w.0 0 x (omega arith) (omega arith)))
      (ap (λ m. y ∷ m) (insert_at l k (omega arith) (λ i d f g. w.0 (suc i) d (omega arith) (omega arith), λ i d f g. w.1 (suc i) d (omega arith) (omega arith))))

  -- then its name is none of theirs
  pub fresh_at : (l : List A) (k : ℕ) → rising (map key l) ≡ true → insert_by key x l ≡ take k l ++ x ∷ drop k l → has (key x) (map key l) ≡ false
  unfolding gather_by
  fresh_at l k r e = is_false (has (key x) (map key l)) (λ t. omega (arith, longer, ap length (same t)))
    where
      same : has (key x) (map key l) ≡ true → map key (insert_by key x l) ≡ map key l
      same t = map_insert key x l ∙ (rw (sorted_rising (map key l) r) at (has_insert (key x) (map key l) [] t))

      longer : length (map key (insert_by key x l)) ≡ suc (length (map key l))
      longer = simp length-map (ap length e ∙ simp (length-append, length-take, length-drop) (omega arith))

  -- it is one of them where it is found
  pub taken_at : (l : List A) (k : ℕ) → k < length l → HoldsAt (λ y. against y ≡ Equal) l k → has (key x) (map key l) ≡ true
  taken_at [] k h e = absurd (omega arith)
  taken_at (y ∷ l) zero h e = rw (turn (key y) (key x) Equal (e x))
  taken_at (y ∷ l) (suc k) h e = rw (taken_at l k (omega arith) e, or-true)
