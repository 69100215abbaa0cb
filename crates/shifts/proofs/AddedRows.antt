-- The rows of a sum of two sections: how many there are, and that each passes what each row of the two passes.
use mathlib.Core.Path.{◌≡◌, refl, sym, ap, ap₂, ◌∙◌}
use mathlib.Core.Bool.{Bool, true, false, cond}
use mathlib.Core.List.{List, [], ◌∷◌, ◌++◌}
use Prim.Native.Nat.{ℕ, suc, ◌+◌, ◌≤◌}
use native.Mathlib.Omega.{arith}
use lib.Dec.{ltb}
use lib.ListN.{length}
use borrow.Author.Tests.{ltb-false, le-ltb}
use Rattle.text.specs.Name.{is_name}
use Rattle.text.proofs.Bools.{or_l, or_r, and_l, and_r}
use Rattle.bill.specs.Rows.{Row, all_named}
use Rattle.sorting.specs.Order.{Name, order, is_same}
use Rattle.sorting.specs.Sets.{twice, itself, sorted, rising}
use Rattle.sorting.proofs.Rising.{twice_sorted, rising_sorted}
use Rattle.sorting.proofs.Keys.{all_sorted}
use Rattle.sorting.proofs.Counts.{sorted_most_two}
use Rattle.shifts.specs.Sound.{names, total, not_count, not_total, some_row}
use Rattle.shifts.specs.Sum.{plus, figures_of, rows_of, add_rows}
use Rattle.shifts.proofs.Rows.{plus_total, plus_length, names_add}
use Rattle.shifts.proofs.Fine.{equal, no_other}
use Rattle.shifts.proofs.Small.{above}

-- ---- the figures of a name

figures_pass : (p : List ℕ → Bool) (d : List ℕ) (rs : List Row) (n : Name) → p d ≡ false → some_row p rs ≡ false → p (figures_of d rs n) ≡ false
unfolding figures_of
figures_pass p d [] n h e = h
figures_pass p d (r ∷ rs) n h e = go (is_same (order n r.name)) (figures_pass p d rs n h (or_r (p r.figures) (some_row p rs) e))
  where
    go : (b : Bool) → p (figures_of d rs n) ≡ false → p (cond b r.figures (figures_of d rs n)) ≡ false
    go true ih = or_l (p r.figures) (some_row p rs) e
    go false ih = ih

pub rows_pass : (p : List ℕ → Bool) (f : Name → List ℕ) (ns : List Name) → ((n : Name) → p (f n) ≡ false) → some_row p (rows_of f ns) ≡ false
unfolding names rows_of
rows_pass p f [] h = refl
rows_pass p f (n ∷ ns) h = rw (h n) (rows_pass p f ns h)

above_more : (m n : ℕ) (fs : List ℕ) → m ≤ n → above m fs ≡ false → above n fs ≡ false
above_more m n [] h e = refl
above_more m n (x ∷ fs) h e =
    rw (le-ltb n x (omega (arith, ltb-false m x (or_l (ltb m x) (above m fs) e)))) (above_more m n fs h (or_r (ltb m x) (above m fs) e))

plus_above : (m k : ℕ) (u v : List ℕ) → above m u ≡ false → above k v ≡ false → above (m + k) (plus u v) ≡ false
plus_above m k [] v e f = above_more k (m + k) v (omega arith) f
plus_above m k (x ∷ u) [] e f = above_more m (m + k) (x ∷ u) (omega arith) e
plus_above m k (x ∷ u) (y ∷ v) e f =
    rw (le-ltb (m + k) (x + y) (omega (arith, ltb-false m x (or_l (ltb m x) (above m u) e), ltb-false k y (or_l (ltb k y) (above k v) f))))
    (plus_above m k u v (or_r (ltb m x) (above m u) e) (or_r (ltb k y) (above k v) f))

-- ---- the names

-- rows of the names of both sections, with any figures
named_both : (f : Name → List ℕ) (rs qs : List Row) → all_named rs ≡ true → all_named qs ≡ true → all_named (rows_of f (names rs ++ names qs)) ≡ true
unfolding names rows_of
named_both f [] [] e h = refl
named_both f [] (q ∷ qs) e h = rw (and_l (is_name q.name) (all_named qs) h) (named_both f [] qs e (and_r (is_name q.name) (all_named qs) h))
named_both f (r ∷ rs) qs e h = rw (and_l (is_name r.name) (all_named rs) e) (named_both f rs qs (and_r (is_name r.name) (all_named rs) e) h)

length_names : (rs : List Row) → length (names rs) ≡ length rs
unfolding names rows_of
length_names [] = refl
length_names (r ∷ rs) = ap suc (length_names rs)

-- ---- the sum

module _ (x y : List ℕ) (rs qs : List Row) where
  pub count_add : length (add_rows x y rs qs) ≤ length rs + length qs
  count_add =
      omega (arith, length_names (add_rows x y rs qs), ap length (names_add x y rs qs), sorted_most_two itself (names rs) (names qs), length_names rs, length_names qs)

  pub rising_add : rising (names (add_rows x y rs qs)) ≡ true
  rising_add = rw (names_add x y rs qs) (rising_sorted (names rs ++ names qs))

  pub once_add : twice (names (add_rows x y rs qs)) ≡ false
  once_add = rw (names_add x y rs qs) (twice_sorted (names rs ++ names qs))

  pub named_add : all_named rs ≡ true → all_named qs ≡ true → all_named (add_rows x y rs qs) ≡ true
  unfolding add_rows names rows_of
  named_add e f = all_sorted itself (λ r. is_name r.name) _ (names rs ++ names qs) (named_both _ rs qs e f)

  -- a test passed by what is given for a missing name and by each row, on either side, and kept by adding
  pass_add : (p q r : List ℕ → Bool) → ((u v : List ℕ) → p u ≡ false → q v ≡ false → r (plus u v) ≡ false) →
      p x ≡ false → q y ≡ false → some_row p rs ≡ false → some_row q qs ≡ false → some_row r (add_rows x y rs qs) ≡ false
  unfolding add_rows
  pass_add p q r kept hx hy e f =
      rows_pass r (λ n. plus (figures_of x rs n) (figures_of y qs n)) (sorted (names rs ++ names qs))
      (λ n. kept (figures_of x rs n) (figures_of y qs n) (figures_pass p x rs n hx e) (figures_pass q y qs n hy f))

  pub counts_add : (k : ℕ) → length x ≡ k → length y ≡ k → some_row (not_count k) rs ≡ false → some_row (not_count k) qs ≡ false → some_row (not_count k) (add_rows x y rs qs) ≡ false
  counts_add k lx ly =
      pass_add (not_count k) (not_count k) (not_count k)
      (λ u v e f. let l = equal (length u) k e in no_other (length (plus u v)) k (plus_length u v (l ∙ sym (equal (length v) k f)) ∙ l))
      (no_other (length x) k lx) (no_other (length y) k ly)

  pub totals_add : (m k : ℕ) → total x ≡ m → total y ≡ k → some_row (not_total m) rs ≡ false → some_row (not_total k) qs ≡ false → some_row (not_total (m + k)) (add_rows x y rs qs) ≡ false
  totals_add m k tx ty =
      pass_add (not_total m) (not_total k) (not_total (m + k))
      (λ u v e f. no_other (total (plus u v)) (m + k) (plus_total u v ∙ ap₂ ◌+◌ (equal (total u) m e) (equal (total v) k f)))
      (no_other (total x) m tx) (no_other (total y) k ty)

  pub above_add : (m k : ℕ) → above m x ≡ false → above k y ≡ false → some_row (above m) rs ≡ false → some_row (above k) qs ≡ false → some_row (above (m + k)) (add_rows x y rs qs) ≡ false
  above_add m k = pass_add (above m) (above k) (above (m + k)) (plus_above m k)
