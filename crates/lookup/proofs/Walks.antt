-- What request No. 11 asks for: where the index is the one that the names give in order, a name is found by it where a walk of all rows finds it.
use Rattle.std.proofs.Common.{None, Some, Option}
use mathlib.Core.Path.{◌≡◌, refl, ap, subst, ◌∙◌}
use mathlib.Core.Bool.{Bool, true, false, ◌||◌, cond}
use mathlib.Core.List.{List}
use Prim.Native.Nat.{ℕ, suc, ◌-◌, ◌≤◌}
use native.Mathlib.Omega.{arith}
use lib.Dec.{eqb}
use lib.ListN.{length}
use borrow.Author.Tests.{ne_eqb, eqb-false}
use Rattle.text.proofs.Bools.{clash}
use Rattle.marks.specs.First.{first_of}
use Rattle.marks.proofs.Firsts.{first_at, first_none, first_is}
use Rattle.tables.specs.Entry.{name_rows, place_rows, names_size, nums_size, name_count, places}
use Rattle.index.specs.Hash.{home_of}
use Rattle.index.specs.Index.{place, entry, sought, home_at, index_from}
use Rattle.index.proofs.Right.{Held, Right, place_lt}
use Rattle.index.proofs.Indexes.{from_right}
use Rattle.lookup.specs.Find.{row_is, ends_at, row_met, find_name, walk_name}
use Rattle.lookup.proofs.Found.{name_found, row_name}

-- in a right index, for any test that only rows of one home pass: a search from there finds the first row that passes. Before its entry there are only
-- those of earlier rows
module _ (home : ℕ → ℕ) (n : ℕ) (l : List ℕ) (x : Right home n l) (h : ℕ) (t : ℕ → Bool) (at_home : (r : ℕ) → t r ≡ true → home r ≡ h) where
  abbrev ends : ℕ → Bool
  ends e = eqb e 0 || t (e - 1)

  passed_over : (e : ℕ) → 1 ≤ e → t (e - 1) ≡ false → ends e ≡ false
  passed_over e k f = rw (ne_eqb e 0 (λ q. omega arith), f)

  seek_first : (f : Option ℕ) → first_of t 0 n ≡ f → row_met l h (sought l h ends) ≡ f
  seek_first (Some r) e =
      let a = first_at t n r e in
      let y : Held l h r = subst (λ h. Held l h r) (at_home r a.1) (x.held r a.0) in
      let m : suc r - 1 ≡ r = omega arith in
      let o = ne_eqb (suc r) 0 (λ q. omega arith) in
      let found = first_is (λ d. ends (entry l h d)) place_rows y.far y.near (rw (y.there, o, m) a.1)
      (λ j k. let b = y.before j k in passed_over (entry l h j) b.0 (a.2 _ (omega arith))) in
      ap (row_met l h) found ∙ rw (y.there, o, m)
  seek_first None e = by_found (sought l h ends) refl
    where
      -- the search ends at a free place or not at all
      by_found : (f : Option ℕ) → sought l h ends ≡ f → row_met l h f ≡ None
      by_found None q = refl
      by_found (Some d) q = by_entry (eqb (entry l h d) 0) refl
        where
          by_entry : (b : Bool) → eqb (entry l h d) 0 ≡ b → cond b None (Some (entry l h d - 1)) ≡ None
          by_entry true z = refl
          by_entry false z =
              let some-row = eqb-false (entry l h d) 0 z in
              let fails = first_none t n e (entry l h d - 1) (omega (arith, x.small (place h d) (place_lt h d))) in
              absurd (clash (ends (entry l h d)) (first_at (λ d. ends (entry l h d)) place_rows d q).1 (passed_over (entry l h d) (omega arith) fails))

-- a row that holds a name has the name's home
row_home : (names nums name : List ℕ) (i : ℕ) → row_is names nums name i ≡ true → home_at names nums i ≡ home_of name
unfolding home_at
row_home names nums name i e = ap home_of (row_name names nums name i e)

pub find_walks : (names nums : List ℕ) → length names ≡ names_size → length nums ≡ nums_size → name_count nums ≤ name_rows → places nums ≡ index_from names nums
    → (name : List ℕ) → find_name names nums name ≡ walk_name names nums name
unfolding walk_name ends_at
find_walks names nums z w b e name =
    name_found names nums name z w
    ∙ seek_first (home_at names nums) (name_count nums) (places nums) (from_right names nums b e) (home_of name) (row_is names nums name) (row_home names nums name) _ refl
