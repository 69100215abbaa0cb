-- How the code tests an index: the test passes exactly where the index is right, and so exactly where it is the one that inserting gives. First for any homes, then for the names of
-- lent tables.
use Rattle.std.proofs.Common.{Option, None, Some}
use mathlib.Core.Path.{◌≡◌, refl, sym, ap, subst, ◌∙◌}
use mathlib.Core.Bool.{Bool, true, false, ◌&&◌, and_assoc}
use mathlib.Core.List.{List}
use Prim.Native.Nat.{ℕ, zero, suc, ◌≤◌, ◌<◌}
use native.Mathlib.Omega.{arith}
use lib.Dec.{eqb, ltb}
use lib.ListN.{length, get_or}
use borrow.Author.Tests.{eqb-true, eqb-false, eq-eqb, ne_eqb, lt-ltb, le-ltb, ltb-false}
use Rattle.text.specs.Bytes.{same_bytes}
use Rattle.text.proofs.Bools.{and_l, and_r, or_l, or_r, clash}
use Rattle.text.proofs.Words.{same_eq, eq_same}
use Rattle.marks.proofs.Firsts.{first_at, first_is}
use Rattle.tables.specs.Entry.{place_rows, nums_size, name_count, places}
use Rattle.index.specs.Index.{entry, sought, place_found, index_of, home_at, index_from}
use Rattle.index.specs.Taken.{taken_places}
use Rattle.index.proofs.Folds.{home_at_lt}
use Rattle.index.proofs.Tally.{taken_by}
use Rattle.index.proofs.Right.{Held, Right, right_same, right_index, taken_index}
use Rattle.index.proofs.Indexes.{places_size}
use Rattle.ranges.specs.Range.{Counted, name_ok, up_to, index_ok}
use Rattle.ranges.specs.IndexCode.{vacant, holds_row, row_placed, name_tests}
use Rattle.ranges.proofs.UpTo.{up_each, up_all, crossed, up_and}

-- ---- an entry is vacant to row r if it is of no row before r

vacant_later : (r e : ℕ) → r < e → vacant r e ≡ true
unfolding vacant
vacant_later r e h = rw (ne_eqb e 0 (λ q. omega arith), lt-ltb r e h)

vacant_earlier : (r e : ℕ) → 1 ≤ e → e ≤ r → vacant r e ≡ false
unfolding vacant
vacant_earlier r e h k = rw (ne_eqb e 0 (λ q. omega arith), le-ltb r e k)

earlier : (r e : ℕ) → vacant r e ≡ false → (1 ≤ e) × (e ≤ r)
unfolding vacant
earlier r e v = let z = eqb-false e 0 (or_l (eqb e 0) (ltb r e) v) in (omega arith, ltb-false r e (or_r (eqb e 0) (ltb r e) v))

module _ (l : List ℕ) (home : ℕ → ℕ) where
  -- the distance at which row r is looked for, and the place
  abbrev looked : ℕ → Option ℕ
  looked r = sought l (home r) (vacant r)

  abbrev spot : ℕ → ℕ
  spot r = place_found (home r) (looked r)

  -- a row that is held is where it is looked for
  held_placed : (r : ℕ) → Held l (home r) r → row_placed l (home r) r ≡ true
  unfolding row_placed
  held_placed r x =
      rw (first_is (λ d. vacant r (entry l (home r) d)) place_rows x.far x.near (vacant_later r _ (omega (arith, x.there)))
      (λ k h. let e = x.before k h in vacant_earlier r _ e.0 e.1))
      (eq-eqb _ _ x.there)

  -- where a row passes, it lies where it is looked for
  placed_found : (r : ℕ) → row_placed l (home r) r ≡ true → (d : ℕ) × (looked r ≡ Some d) × (entry l (home r) d ≡ suc r)
  unfolding row_placed
  placed_found r t = by_found (looked r) refl t
    where
      by_found : (o : Option ℕ) → looked r ≡ o → holds_row l (home r) r o ≡ true → (d : ℕ) × (looked r ≡ Some d) × (entry l (home r) d ≡ suc r)
      by_found (Some d) e t = (d, e, eqb-true _ _ t)
      by_found None e t = absurd (clash false t refl)

  module _ (n : ℕ) (size : length l ≡ place_rows) (rows : (r : ℕ) → r < n → row_placed l (home r) r ≡ true) (count : taken_places l ≡ n) where
    there : (r : ℕ) → r < n → get_or l (spot r) 0 ≡ suc r
    there r h = let w = placed_found r (rows r h) in ap (λ o. get_or l (place_found (home r) o) 0) w.1 ∙ w.2

    -- what is in the index is a row, at its place
    a_row : (p : ℕ) → 1 ≤ get_or l p 0 → (r : ℕ) × (r < n) × (p ≡ spot r)
    a_row = taken_by spot n l there (omega arith)

    -- the row in a place is the one that its entry says
    its_row : (p r : ℕ) → get_or l p 0 ≡ suc r → (r < n) × (p ≡ spot r)
    its_row p r e =
        let w = a_row p (omega arith) in
        let q : w.0 ≡ r = omega (arith, e, ap (λ p. get_or l p 0) w.2, there w.0 w.1) in
        (omega (arith, w.1), w.2 ∙ ap spot q)

    counted_held : (r : ℕ) → r < n → Held l (home r) r
    counted_held r h =
        let w = placed_found r (rows r h) in
        let a = first_at (λ d. vacant r (entry l (home r) d)) place_rows w.0 w.1 in
        record {
          far = w.0;
          near = a.0;
          there = w.2;
          before = λ k b. earlier r _ (a.2 k b);
          only = λ p b e. (its_row p r e).1 ∙ ap (place_found (home r)) w.1;
        }

    counted_small : (p : ℕ) → get_or l p 0 ≤ n
    counted_small p = by_entry (get_or l p 0) refl
      where
        by_entry : (v : ℕ) → get_or l p 0 ≡ v → v ≤ n
        by_entry zero e = omega arith
        by_entry (suc r) e = (its_row p r e).0

    counted_right : Right home n l
    counted_right = record { size = size; small = λ p h. counted_small p; held = counted_held }

-- ---- the test says whether the index is the one that inserting gives

module _ (l : List ℕ) (home : ℕ → ℕ) (n : ℕ) (size : length l ≡ place_rows) (few : n ≤ place_rows) (inside : (r : ℕ) → r < n → home r < place_rows) where
  abbrev tests : Bool
  tests = up_to (λ r. row_placed l (home r) r) n && eqb (taken_places l) n

  passed_same : tests ≡ true → l ≡ index_of home n
  passed_same e =
      right_same home n l (index_of home n)
      (counted_right l home n size (up_each _ n (and_l _ (eqb (taken_places l) n) e)) (eqb-true _ _ (and_r (up_to (λ r. row_placed l (home r) r) n) _ e)))
      (right_index home n few inside)

  same_passed : l ≡ index_of home n → tests ≡ true
  same_passed e =
      let x : Right home n l = subst (Right home n) (sym e) (right_index home n few inside) in
      rw (up_all (λ r. row_placed l (home r) r) n (λ r h. held_placed l home r (x.held r h))) (eq-eqb _ _ (ap taken_places e ∙ taken_index home n few inside))

  tested : tests ≡ same_bytes l (index_of home n)
  tested = by_tests tests (same_bytes l (index_of home n)) refl refl
    where
      by_tests : (s t : Bool) → tests ≡ s → same_bytes l (index_of home n) ≡ t → s ≡ t
      by_tests true t e f = sym (eq_same l (index_of home n) (passed_same e)) ∙ f
      by_tests false true e f = sym e ∙ same_passed (same_eq l (index_of home n) f)
      by_tests false false e f = refl

-- ---- in lent tables

-- the code tests a name's row and its place in one turn, and counts the places last: between them stand the other tests
pub index_tested : (names nums ticks : List ℕ) → length nums ≡ nums_size → Counted nums → (others : Bool)
    → (up_to (name_tests names nums ticks (places nums)) (name_count nums) && others) && eqb (taken_places (places nums)) (name_count nums)
    ≡ up_to (name_ok names nums ticks) (name_count nums) && (others && index_ok names nums)
unfolding index_ok index_from
index_tested names nums ticks size s others =
    let n = name_count nums in
    let placed : ℕ → Bool = λ i. row_placed (places nums) (home_at names nums i) i in
    let ok = name_ok names nums ticks in
    let counted = eqb (taken_places (places nums)) n in
    ap (λ b. (b && others) && counted) (up_and ok placed n)
    ∙ and_assoc (up_to ok n && up_to placed n) others counted
    ∙ crossed (up_to ok n) (up_to placed n) others counted
    ∙ and_assoc (up_to ok n) others (up_to placed n && counted)
    ∙ ap (λ b. up_to ok n && (others && b)) (tested (places nums) (home_at names nums) n (places_size nums size) (omega (arith, s.names)) (λ r h. home_at_lt names nums r))
