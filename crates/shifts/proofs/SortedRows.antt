-- A section in the order of its names: the same figures of each name, and so the same sum.
use mathlib.Core.Path.{◌≡◌, refl, ap₂, fun_ext, ◌∙◌}
use mathlib.Core.Bool.{false, ◌||◌}
use mathlib.Core.List.{List, [], ◌∷◌, ◌++◌}
use Prim.Native.Nat.{ℕ}
use Rattle.text.proofs.Bools.{or_l, or_r}
use Rattle.bill.specs.Rows.{Row}
use Rattle.std.specs.declared.cmp.Ordering.{Ordering}
use Rattle.std.specs.declared.cmp.Ordering.TheVariants.{Less, Equal, Greater}
use Rattle.sorting.specs.Order.{Name, order, is_same}
use Rattle.sorting.specs.Sets.{has, twice, insert_by, gather_by, sorted_by, sorted}
use Rattle.sorting.proofs.Orders.{order_same}
use Rattle.sorting.proofs.Sets.{sorted_both}
use Rattle.sorting.proofs.Keys.{map_sorted, has_sorted}
use Rattle.shifts.specs.Sound.{names}
use Rattle.shifts.specs.Sum.{by_name, plus, figures_of, rows_of, add_rows}

-- ---- the figures of a name

module _ (d : List ℕ) (n : Name) where
  -- a row whose name isn't there goes in as if it stood first
  figures_insert : (r : Row) (rs : List Row) → has r.name (names rs) ≡ false → figures_of d (insert_by by_name r rs) n ≡ figures_of d (r ∷ rs) n
  unfolding figures_of insert_by names rows_of
  figures_insert r [] h = refl
  figures_insert r (q ∷ rs) h =
      go (order r.name q.name) refl h (order n r.name) refl (figures_insert r rs (or_r (is_same (order r.name q.name)) (has r.name (names rs)) h))
    where
      go : (o : Ordering) → order r.name q.name ≡ o → is_same o || has r.name (names rs) ≡ false → (p : Ordering) → order n r.name ≡ p →
          figures_of d (insert_by by_name r rs) n ≡ figures_of d (r ∷ rs) n → figures_of d (insert_by by_name r (q ∷ rs)) n ≡ figures_of d (r ∷ q ∷ rs) n
      go Less e h p f ih = rw e
      go Equal e h p f ih = cc
      go Greater e h Less f ih = rw (e, f, ih, f)
      go Greater e h Equal f ih = let k : order n q.name ≡ Greater = rw (order_same n r.name f) e in rw (e, k, ih, f)
      go Greater e h Greater f ih = rw (e, f, ih, f)

  pub figures_sorted : (rs : List Row) → twice (names rs) ≡ false → figures_of d (sorted_by by_name rs) n ≡ figures_of d rs n
  unfolding gather_by figures_of names rows_of
  figures_sorted [] z = refl
  figures_sorted (r ∷ rs) z =
      let h = has_sorted by_name r.name rs ∙ or_l (has r.name (names rs)) (twice (names rs)) z in
      figures_insert r (sorted_by by_name rs) h ∙ rw (figures_sorted rs (or_r (has r.name (names rs)) (twice (names rs)) z))

-- ---- the sum

pub add_sorted : (x y : List ℕ) (rs qs : List Row) → twice (names rs) ≡ false → twice (names qs) ≡ false →
    add_rows x y (sorted_by by_name rs) (sorted_by by_name qs) ≡ add_rows x y rs qs
unfolding add_rows names rows_of
add_sorted x y rs qs z w =
    ap₂ rows_of (fun_ext (λ n. ap₂ plus (figures_sorted x n rs z) (figures_sorted y n qs w)))
    (ap₂ (λ (ns ms : List Name). sorted (ns ++ ms)) (map_sorted by_name rs) (map_sorted by_name qs) ∙ sorted_both (names rs) (names qs))
