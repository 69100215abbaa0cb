-- Two sections in order, walked side by side: whether some name stands in both is told by the names that come first and those after them.
use mathlib.Core.Path.{◌≡◌, sym, ap, subst, ◌∙◌}
use mathlib.Core.Bool.{Bool, true, false, ◌||◌}
use mathlib.Core.List.{List, [], ◌∷◌, map}
use Prim.Native.Nat.{ℕ, suc, ◌+◌, ◌≤◌, ◌<◌}
use lib.ListN.{length, get_or, drop, length-map, get_or-map, drop_of_length-le}
use lib.Seq.{drop-cons, drop-drop}
use Rattle.std.specs.declared.cmp.Ordering.{Ordering}
use Rattle.std.specs.declared.cmp.Ordering.TheVariants.{Less, Equal, Greater}
use Rattle.sorting.specs.Order.{Name, order, is_same}
use Rattle.sorting.specs.Sets.{meets, rising}
use Rattle.sorting.proofs.Sets.{turn}
use Rattle.sorting.proofs.Meets.{meets_none, meets_turned, meets_less, rising_drop}
use Rattle.shifts.specs.Merge.{left_step, right_step}

module _ (n m : Name) (ns ms : List Name) (r : rising (n ∷ ns) ≡ true) (q : rising (m ∷ ms) ≡ true) where
  meets_step : (o : Ordering) → o ≡ order n m →
      meets (n ∷ ns) (m ∷ ms) ≡ is_same o || meets (drop (left_step o) (n ∷ ns)) (drop (right_step o) (m ∷ ms))
  meets_step Less e = meets_less n m ns ms (sym e) q
  meets_step Equal e = rw (← e)
  meets_step Greater e = meets_turned (n ∷ ns) (m ∷ ms) ∙ meets_less m n ms ns (turn n m Greater (sym e)) r ∙ meets_turned ms (n ∷ ns)

-- ---- the names of rows, from the i-th and the j-th on

module _ (key : ℕ → Name) (l : List ℕ) (i : ℕ) where
  at_end_lem : length l ≤ i → drop i (map key l) ≡ []
  at_end_lem h = drop_of_length-le (map key l) {i = i} (rw length-map h)

  at_row : i < length l → drop i (map key l) ≡ key (get_or l i 0) ∷ drop (suc i) (map key l)
  at_row h = drop-cons (map key l) i (key 0) (rw length-map h) ∙ ap (λ n. n ∷ drop (suc i) (map key l)) (get_or-map key l i 0)

module _ (key key' : ℕ → Name) (left right : List ℕ) (i j : ℕ) where
  abbrev common : Bool
  common = meets (drop i (map key left)) (drop j (map key' right))

  pub second_done : length right ≤ j → common ≡ false
  second_done h = rw (at_end_lem key' right j h) (meets_none (drop i (map key left)))

  module _ (r : rising (map key left) ≡ true) (q : rising (map key' right) ≡ true) (h : i < length left) (k : j < length right) where
    turned : (o : Ordering) → o ≡ order (key (get_or left i 0)) (key' (get_or right j 0)) →
        common ≡ is_same o || meets (drop (left_step o) (drop i (map key left))) (drop (right_step o) (drop j (map key' right)))
    turned o e =
        subst (λ (ms : List Name). meets (drop i (map key left)) ms ≡ is_same o || meets (drop (left_step o) (drop i (map key left))) (drop (right_step o) ms))
        (sym (at_row key' right j k))
        (rw (at_row key left i h)
        (meets_step (key (get_or left i 0)) (key' (get_or right j 0)) (drop (suc i) (map key left)) (drop (suc j) (map key' right))
        (rw (at_row key left i h) at (rising_drop i (map key left) r)) (rw (at_row key' right j k) at (rising_drop j (map key' right) q)) o e))

    module _ {o : Ordering} (e : o ≡ order (key (get_or left i 0)) (key' (get_or right j 0))) where
      pub meets_one : o ≡ Equal → common ≡ true
      meets_one f = turned Equal (sym f ∙ e)

      pub meets_left : o ≡ Less → common ≡ meets (drop (i + 1) (map key left)) (drop j (map key' right))
      meets_left f = rw (← drop-drop 1 i (map key left)) (turned Less (sym f ∙ e))

      pub meets_right : o ≡ Greater → common ≡ meets (drop i (map key left)) (drop (j + 1) (map key' right))
      meets_right f = rw (← drop-drop 1 j (map key' right)) (turned Greater (sym f ∙ e))
