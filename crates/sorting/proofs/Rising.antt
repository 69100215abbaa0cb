-- Sorted names: they rise, none stands twice, and sums and counts over them.
use mathlib.Core.Path.{◌≡◌, refl, ap, ◌∙◌}
use mathlib.Core.Bool.{Bool, true, false, ◌||◌}
use mathlib.Core.List.{List, [], ◌∷◌, ◌++◌}
use Prim.Native.Nat.{ℕ, ◌+◌, ◌≤◌}
use native.Mathlib.Omega.{arith}
use lib.ListN.{length}
use Rattle.text.specs.Lists.{sum_over}
use Rattle.text.proofs.Bools.{or_l, or_r, and_l, and_r}
use Rattle.std.specs.declared.cmp.Ordering.{Ordering}
use Rattle.std.specs.declared.cmp.Ordering.TheVariants.{Less, Equal, Greater}
use Rattle.sorting.specs.Order.{Name, order, is_same, is_less}
use Rattle.sorting.specs.Sets.{has, twice, insert_by, gather_by, insert, gather, sorted, under, rising}
use Rattle.sorting.proofs.Sets.{turn, at_less, gather_insert, gather_two, gather_append, sorted_two, any_insert, any_gather, has_insert}

-- ---- a sum with one name more

module _ (f : Name → ℕ) where
  sum_none : (x : Name) (l : List Name) → f x ≡ 0 → sum_over f (insert x l) ≡ sum_over f l
  unfolding insert_by
  sum_none x [] z = omega arith
  sum_none x (m ∷ l) z = go (order x m) refl (sum_none x l z)
    where
      go : (o : Ordering) → order x m ≡ o → sum_over f (insert x l) ≡ sum_over f l → sum_over f (insert x (m ∷ l)) ≡ sum_over f (m ∷ l)
      go Less e ih = rw e (omega arith)
      go Equal e ih = rw e
      go Greater e ih = rw e (omega arith)

  sum_fresh : (x : Name) (l : List Name) → has x l ≡ false → sum_over f (insert x l) ≡ f x + sum_over f l
  unfolding insert_by
  sum_fresh x [] z = refl
  sum_fresh x (m ∷ l) z = go (order x m) refl z (sum_fresh x l (or_r (is_same (order x m)) (has x l) z))
    where
      go : (o : Ordering) → order x m ≡ o → is_same o || has x l ≡ false → sum_over f (insert x l) ≡ f x + sum_over f l → sum_over f (insert x (m ∷ l)) ≡ f x + sum_over f (m ∷ l)
      go Less e z ih = rw e
      go Equal e z ih = cc
      go Greater e z ih = rw e (omega arith)

  -- names that are no others, none of them twice
  pub sum_sorted : (ns : List Name) → twice ns ≡ false → sum_over f (sorted ns) ≡ sum_over f ns
  unfolding gather_by
  sum_sorted [] z = refl
  sum_sorted (n ∷ ns) z =
      let h : has n (sorted ns) ≡ false = any_gather (λ m. is_same (order n m)) ns [] ∙ rw (or_l (has n ns) (twice ns) z) in
      let ih = sum_sorted ns (or_r (has n ns) (twice ns) z) in
      sum_fresh n (sorted ns) h ∙ ap (λ (k : ℕ). f n + k) ih

  -- with others beside them, of which the sum has nothing
  pub sum_beside : (ns ms : List Name) → twice ns ≡ false → ((x : Name) → has x ns ≡ false → f x ≡ 0) → sum_over f (sorted (ns ++ ms)) ≡ sum_over f ns
  unfolding gather_by
  sum_beside ns ms z none = rw (gather_append ns ms [], gather_two ns ms []) (more ms ∙ sum_sorted ns z)
    where
      step : (b : Bool) (m : Name) (ms : List Name) → has m ns ≡ b → sum_over f (gather ms (sorted ns)) ≡ sum_over f (sorted ns) →
          sum_over f (insert m (gather ms (sorted ns))) ≡ sum_over f (sorted ns)
      step true m ms e ih = rw (← gather_insert ms m (sorted ns), has_insert m ns [] e) ih
      step false m ms e ih = sum_none m (gather ms (sorted ns)) (none m e) ∙ ih

      more : (ms : List Name) → sum_over f (gather ms (sorted ns)) ≡ sum_over f (sorted ns)
      more [] = refl
      more (m ∷ ms) = step (has m ns) m ms refl (more ms)

-- ---- none stands twice

twice_insert : (x : Name) (l : List Name) → has x l ≡ false → twice l ≡ false → twice (insert x l) ≡ false
unfolding insert_by
twice_insert x [] h z = refl
twice_insert x (m ∷ l) h z = go (order x m) refl h (twice_insert x l (or_r (is_same (order x m)) (has x l) h) (or_r (has m l) (twice l) z))
  where
    go : (o : Ordering) → order x m ≡ o → is_same o || has x l ≡ false → twice (insert x l) ≡ false → twice (insert x (m ∷ l)) ≡ false
    go Less e h ih = rw (e, e, z, h)
    go Equal e h ih = cc
    go Greater e h ih = rw (e, any_insert (λ n. is_same (order m n)) x l, turn x m Greater e, or_l (has m l) (twice l) z, ih)

pub twice_sorted : (ns : List Name) → twice (sorted ns) ≡ false
unfolding gather_by
twice_sorted [] = refl
twice_sorted (n ∷ ns) = go (has n ns) refl (twice_sorted ns)
  where
    go : (b : Bool) → has n ns ≡ b → twice (sorted ns) ≡ false → twice (insert n (sorted ns)) ≡ false
    go true e ih = rw (has_insert n ns [] e) ih
    go false e ih = twice_insert n (sorted ns) (any_gather (λ m. is_same (order n m)) ns [] ∙ rw e) ih

-- ---- counts

length_insert : (x : Name) (l : List Name) → length l ≤ length (insert x l)
unfolding insert_by
length_insert x [] = omega arith
length_insert x (m ∷ l) = go (order x m) refl (length_insert x l)
  where
    go : (o : Ordering) → order x m ≡ o → length l ≤ length (insert x l) → length (m ∷ l) ≤ length (insert x (m ∷ l))
    go Less e ih = rw e (omega arith)
    go Equal e ih = rw e (omega arith)
    go Greater e ih = rw e (omega arith)

length_gather : (ns l : List Name) → length l ≤ length (gather ns l)
unfolding gather_by
length_gather [] l = omega arith
length_gather (n ∷ ns) l = let h = length_gather ns l in omega (arith, length_insert n (gather ns l))

-- names beside others are no fewer
pub length_second : (ns ms : List Name) → length (sorted ms) ≤ length (sorted (ns ++ ms))
length_second ns ms = rw (gather_append ns ms []) (length_gather ns (sorted ms))

pub length_first : (ns ms : List Name) → length (sorted ns) ≤ length (sorted (ns ++ ms))
length_first ns ms = rw (sorted_two ns ms) (length_second ms ns)

-- ---- they rise, and rising names are sorted

under_insert : (n x : Name) (l : List Name) → order n x ≡ Less → under n l ≡ true → under n (insert x l) ≡ true
unfolding insert_by
under_insert n x [] e h = rw e
under_insert n x (m ∷ l) e h = go (order x m) refl
  where
    go : (o : Ordering) → order x m ≡ o → under n (insert x (m ∷ l)) ≡ true
    go Less f = rw (f, e)
    go Equal f = rw (f, h)
    go Greater f = rw (f, h)

rising_insert : (x : Name) (l : List Name) → rising l ≡ true → rising (insert x l) ≡ true
unfolding rising insert_by
rising_insert x [] h = refl
rising_insert x (m ∷ l) h = go (order x m) refl (rising_insert x l (and_r (under m l) (rising l) h))
  where
    go : (o : Ordering) → order x m ≡ o → rising (insert x l) ≡ true → rising (insert x (m ∷ l)) ≡ true
    go Less e ih = rw (e, e, h)
    go Equal e ih = rw (e, h)
    go Greater e ih = rw (e, under_insert m x l (turn x m Greater e) (and_l (under m l) (rising l) h), ih)

pub rising_sorted : (ns : List Name) → rising (sorted ns) ≡ true
unfolding gather_by
rising_sorted [] = unfold rising in refl
rising_sorted (n ∷ ns) = rising_insert n (sorted ns) (rising_sorted ns)

pub is_less_lem : (o : Ordering) → is_less o ≡ true → o ≡ Less
is_less_lem Less e = refl
is_less_lem Equal e = cc
is_less_lem Greater e = cc

pub sorted_rising : (ns : List Name) → rising ns ≡ true → sorted ns ≡ ns
unfolding rising gather_by insert_by
sorted_rising [] h = refl
sorted_rising (n ∷ []) h = refl
sorted_rising (n ∷ m ∷ ns) h =
    rw (sorted_rising (m ∷ ns) (and_r (is_less (order n m)) (rising (m ∷ ns)) h)) (at_less n m ns (is_less_lem (order n m) (and_l (is_less (order n m)) (rising (m ∷ ns)) h)))
