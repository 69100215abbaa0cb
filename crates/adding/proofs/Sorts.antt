-- Rows put in order one after the other, the last one first: those from i on are in order at the front of the entries.
use mathlib.Core.Path.{◌≡◌, refl, sym, ap, ◌∙◌}
use mathlib.Core.Bool.{Bool, true, false, not, or-true}
use mathlib.Core.List.{List, [], ◌∷◌, map}
use Prim.Native.Nat.{ℕ, zero, suc, ◌+◌, ◌-◌, ◌≤◌, ◌<◌}
use native.Mathlib.Numerals.{add-one}
use native.Mathlib.Omega.{arith}
use lib.ListN.{length, get_or, take, drop, length-drop}
use lib.Seq.{drop-cons, drop-length}
use Rattle.text.proofs.Bools.{clash}
use Rattle.sorting.specs.Order.{Name}
use Rattle.sorting.specs.Sets.{has, twice, insert_by, gather_by, rising}
use Rattle.sorting.proofs.Keys.{rising_keys, has_sorted, length_sorted}
use Rattle.paper.specs.Lines.{name_at}
use Rattle.adding.specs.SortCode.{Inserted, SortedInto}

-- ---- one row more

module _ (text xs l : List ℕ) (w : SortedInto text xs l) where
  in_order : rising (map (name_at text) (take (length xs) l)) ≡ true
  in_order = rw w.rows (rising_keys (name_at text) xs)

  module _ (p : ℕ) (after : List ℕ) where
    heard : has (name_at text p) (map (name_at text) (take (length xs) l)) ≡ has (name_at text p) (map (name_at text) xs)
    heard = rw w.rows (has_sorted (name_at text) (name_at text p) xs)

    counted : length (take (length xs) l) + 1 ≡ suc (length xs)
    counted = rw (w.rows, add-one, length_sorted (name_at text) xs w.once)

    one_more : Inserted text (take (length xs) l) p after true → SortedInto text (p ∷ xs) after
    unfolding gather_by
    one_more e = record { once = rw (← heard, e.0, w.once); rows = sym (ap (λ k. take k after) counted) ∙ e.1 ∙ ap (insert_by (name_at text) p) w.rows }

    one_twice : Inserted text (take (length xs) l) p after false → twice (map (name_at text) (p ∷ xs)) ≡ true
    one_twice e = rw (← heard, e)

twice_drop : (key : ℕ → Name) (j : ℕ) (l : List ℕ) → twice (map key (drop j l)) ≡ true → twice (map key l) ≡ true
twice_drop key zero l h = h
twice_drop key (suc j) [] h = h
twice_drop key (suc j) (x ∷ l) h = rw (twice_drop key j l h) (or-true (has (key x) (map key l)))

-- ---- a turn

pub sort_none : (text places sorted : List ℕ) → SortedInto text (drop (length places) places) sorted
unfolding gather_by
sort_none text places sorted = rw (drop-length places) (record { once = refl; rows = refl })

module _ (text places l : List ℕ) (i : ℕ) (h : 0 < i) (k : i ≤ length places) (w : SortedInto text (drop i places) l) where
  count : length places - 1 - (i - 1) ≡ length (drop i places)
  count = omega (arith, length-drop i places)

  next : drop (i - 1) places ≡ get_or places (i - 1) 0 ∷ drop i places
  next = let e : suc (i - 1) ≡ i = omega arith in drop-cons places (i - 1) 0 (omega arith) ∙ ap (λ m. get_or places (i - 1) 0 ∷ drop m places) e

  pub sort_order : rising (map (name_at text) (take (length places - 1 - (i - 1)) l)) ≡ true
  sort_order = rw count (in_order text (drop i places) l w)

  module _ (after : List ℕ) where
    -- the row before goes in, or its name is there
    abbrev Put : Bool → Type 0
    Put = Inserted text (take (length places - 1 - (i - 1)) l) (get_or places (i - 1) 0) after

    pub sort_turn : (told : Bool) → not told ≡ false → Put told → SortedInto text (drop (i - 1) places) after
    sort_turn true t e = rw next (one_more text (drop i places) l w (get_or places (i - 1) 0) after (rw count at e))
    sort_turn false t e = absurd (clash false (sym t) refl)

    pub sort_twice : (told : Bool) → not told ≡ true → Put told → twice (map (name_at text) places) ≡ true
    sort_twice true t e = absurd (clash true refl (sym t))
    sort_twice false t e = twice_drop (name_at text) (i - 1) places (rw next (one_twice text (drop i places) l w (get_or places (i - 1) 0) after (rw count at e)))
