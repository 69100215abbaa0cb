-- Rows added: each name of either section once, and the figures of each name add up, whatever rows there are.
use mathlib.Core.Path.{◌≡◌, refl, sym, ap, ◌∙◌}
use mathlib.Core.Bool.{false, ◌||◌, cond}
use mathlib.Core.List.{List, [], ◌∷◌, ◌++◌, map-map, map-id}
use Prim.Native.Nat.{ℕ, suc, ◌+◌}
use native.Mathlib.Omega.{arith}
use lib.ListN.{length}
use Rattle.text.proofs.Bools.{or_l, or_r}
use Rattle.bill.specs.Rows.{Row}
use Rattle.std.specs.declared.cmp.Ordering.{Ordering}
use Rattle.std.specs.declared.cmp.Ordering.TheVariants.{Less, Equal, Greater}
use Rattle.std.specs.Ordering.{ordering_reverse}
use Rattle.sorting.specs.Order.{Name, order, is_same}
use Rattle.sorting.specs.Sets.{has, twice, sorted}
use Rattle.sorting.proofs.Orders.{order_turned, order_self, order_same}
use Rattle.sorting.proofs.Sets.{any_sorted}
use Rattle.shifts.specs.Sound.{names, total, first}
use Rattle.shifts.specs.Sum.{by_name, plus, figures_of, rows_of, add_rows}

-- ---- figures

pub plus_total : (u v : List ℕ) → total (plus u v) ≡ total u + total v
plus_total [] v = omega arith
plus_total (x ∷ u) [] = omega arith
plus_total (x ∷ u) (y ∷ v) = omega (arith, plus_total u v)

pub plus_first : (u v : List ℕ) → first (plus u v) ≡ first u + first v
plus_first [] v = omega arith
plus_first (x ∷ u) [] = omega arith
plus_first (x ∷ u) (y ∷ v) = refl

pub plus_length : (u v : List ℕ) → length u ≡ length v → length (plus u v) ≡ length u
plus_length [] v e = sym e
plus_length (x ∷ u) [] e = refl
plus_length (x ∷ u) (y ∷ v) e = ap suc (plus_length u v (omega arith))

-- ---- the figures of a name

pub names_rows : (f : Name → List ℕ) (ns : List Name) → names (rows_of f ns) ≡ ns
unfolding names rows_of
names_rows f ns = map-map by_name _ ns ∙ map-id ns

pub figures_missing : (d : List ℕ) (rs : List Row) (n : Name) → has n (names rs) ≡ false → figures_of d rs n ≡ d
unfolding figures_of names rows_of
figures_missing d [] n h = refl
figures_missing d (r ∷ rs) n h =
    rw (or_l (is_same (order n r.name)) (has n (names rs)) h) (figures_missing d rs n (or_r (is_same (order n r.name)) (has n (names rs)) h))

pub figures_rows : (d : List ℕ) (f : Name → List ℕ) (ns : List Name) (n : Name) → (has n ns ≡ false → d ≡ f n) → figures_of d (rows_of f ns) n ≡ f n
unfolding figures_of names rows_of
figures_rows d f [] n h = h refl
figures_rows d f (m ∷ ns) n h = go (order n m) refl h (figures_rows d f ns n)
  where
    go : (o : Ordering) → order n m ≡ o → (is_same o || has n ns ≡ false → d ≡ f n) → ((has n ns ≡ false → d ≡ f n) → figures_of d (rows_of f ns) n ≡ f n) →
        cond (is_same (order n m)) (f m) (figures_of d (rows_of f ns) n) ≡ f n
    go Less e h ih = rw e (ih h)
    go Equal e h ih = rw (e, order_same n m e)
    go Greater e h ih = rw e (ih h)

-- the rows of a section, from its own figures
same_two : (n m : Name) → is_same (order n m) ≡ is_same (order m n)
same_two n m = rw (order_turned n m) (go (order n m))
  where
    go : (o : Ordering) → is_same o ≡ is_same (ordering_reverse o)
    go Less = refl
    go Equal = refl
    go Greater = refl

rows_skip : (d : List ℕ) (r : Row) (rs : List Row) (ns : List Name) → has r.name ns ≡ false → rows_of (figures_of d (r ∷ rs)) ns ≡ rows_of (figures_of d rs) ns
unfolding figures_of names rows_of
rows_skip d r rs [] h = refl
rows_skip d r rs (n ∷ ns) h =
    let z : is_same (order n r.name) ≡ false = same_two n r.name ∙ or_l (is_same (order r.name n)) (has r.name ns) h in
    rw (z, rows_skip d r rs ns (or_r (is_same (order r.name n)) (has r.name ns) h))

pub rows_own : (d : List ℕ) (rs : List Row) → twice (names rs) ≡ false → rows_of (figures_of d rs) (names rs) ≡ rs
unfolding figures_of names rows_of
rows_own d [] z = refl
rows_own d (r ∷ rs) z =
    rw (order_self r.name, rows_skip d r rs (names rs) (or_l (has r.name (names rs)) (twice (names rs)) z), rows_own d rs (or_r (has r.name (names rs)) (twice (names rs)) z))

-- ---- two sections added

module _ (x y : List ℕ) (rs qs : List Row) where
  pub names_add : names (add_rows x y rs qs) ≡ sorted (names rs ++ names qs)
  unfolding add_rows
  names_add = names_rows (λ n. plus (figures_of x rs n) (figures_of y qs n)) (sorted (names rs ++ names qs))

  pub figures_add : (n : Name) → figures_of (plus x y) (add_rows x y rs qs) n ≡ plus (figures_of x rs n) (figures_of y qs n)
  unfolding add_rows
  figures_add n = figures_rows (plus x y) (λ n. plus (figures_of x rs n) (figures_of y qs n)) (sorted (names rs ++ names qs)) n missing
    where
      missing : has n (sorted (names rs ++ names qs)) ≡ false → plus x y ≡ plus (figures_of x rs n) (figures_of y qs n)
      missing h =
          let k : has n (names rs) || has n (names qs) ≡ false = sym (any_sorted (λ m. is_same (order n m)) (names rs) (names qs)) ∙ h in
          rw (figures_missing x rs n (or_l (has n (names rs)) (has n (names qs)) k), figures_missing y qs n (or_r (has n (names rs)) (has n (names qs)) k))
