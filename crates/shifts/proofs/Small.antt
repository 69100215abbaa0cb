-- No figure of a sound bill is large: a core's is at most the span, and none is above 2^62, so that two of them can be added in 64 bits (`small`).
use mathlib.Core.Path.{◌≡◌, refl}
use mathlib.Core.Bool.{Bool, false}
use mathlib.Core.List.{List, [], ◌∷◌}
use Prim.Native.Nat.{ℕ, ◌*◌, ◌^◌, ◌≤◌}
use native.Mathlib.Omega.{arith}
use lib.Dec.{ltb}
use lib.ListN.{length}
use borrow.Author.Tests.{le-ltb}
use Rattle.text.specs.Sizes.{max_time, core_limit}
use Rattle.text.specs.Lists.{any}
use Rattle.text.proofs.Bools.{or_l, or_r}
use Rattle.bill.specs.Rows.{Row}
use Rattle.bill.specs.Reading.{Bill}
use Rattle.shifts.specs.Sound.{total, first, firsts, not_count, not_total, some_row}
use Rattle.shifts.proofs.Fine.{Fine, equal, few_cores}

-- some figure is above m
abbrev pub above : ℕ → List ℕ → Bool
above m = any (ltb m)

not_above : (m : ℕ) (fs : List ℕ) → total fs ≤ m → above m fs ≡ false
not_above m [] h = refl
not_above m (x ∷ fs) h = rw (le-ltb m x (omega arith)) (not_above m fs (omega arith))

-- what passes a test in each row passes another that follows from it
module _ (p q : List ℕ → Bool) (follows : (fs : List ℕ) → p fs ≡ false → q fs ≡ false) where
  rows_follow : (rs : List Row) → some_row p rs ≡ false → some_row q rs ≡ false
  rows_follow [] e = refl
  rows_follow (r ∷ rs) e = rw (follows r.figures (or_l (p r.figures) (some_row p rs) e)) (rows_follow rs (or_r (p r.figures) (some_row p rs) e))

-- ---- a core's figures, and all held ticks

first_most : (fs : List ℕ) → first fs ≤ total fs
first_most [] = omega arith
first_most (x ∷ fs) = omega arith

held_rows : (span : ℕ) (rs : List Row) → span ≤ max_time → some_row (not_total span) rs ≡ false → firsts rs ≤ length rs * max_time
held_rows span [] h e = omega arith
held_rows span (r ∷ rs) h e =
    let t = equal (total r.figures) span (or_l (not_total span r.figures) (some_row (not_total span) rs) e) in
    let ih = held_rows span rs h (or_r (not_total span r.figures) (some_row (not_total span) rs) e) in
    omega (arith, first_most r.figures)

-- ---- a charge is at most all charges

one_total : (fs : List ℕ) → length fs ≡ 1 → total fs ≡ first fs
one_total [] e = absurd (omega arith)
one_total (x ∷ []) e = omega arith
one_total (x ∷ y ∷ fs) e = absurd (omega arith)

charge_rows : (m : ℕ) (rs : List Row) → some_row (not_count 1) rs ≡ false → firsts rs ≤ m → some_row (above m) rs ≡ false
charge_rows m [] e h = refl
charge_rows m (r ∷ rs) e h =
    let t = one_total r.figures (equal (length r.figures) 1 (or_l (not_count 1 r.figures) (some_row (not_count 1) rs) e)) in
    rw (not_above m r.figures (omega arith)) (charge_rows m rs (or_r (not_count 1 r.figures) (some_row (not_count 1) rs) e) (omega arith))

-- ---- of a sound bill

module _ (b : Bill) (f : Fine b) where
  pub cores_small : (m : ℕ) → b.sheet.span ≤ m → some_row (above m) b.sheet.cores ≡ false
  cores_small m h =
      rows_follow (not_total b.sheet.span) (above m) (λ fs e. not_above m fs (omega (arith, equal (total fs) b.sheet.span e))) b.sheet.cores f.spans

  held_small : firsts b.sheet.cores ≤ core_limit * max_time
  held_small = omega (arith, held_rows b.sheet.span b.sheet.cores f.short f.spans, few_cores b.sheet.cores b.sheet.processes f.few)

  pub charges_small : (m : ℕ) → core_limit * max_time ≤ m → some_row (above m) b.sheet.processes ≡ false
  charges_small m h = charge_rows m b.sheet.processes f.process_counts (omega (arith, held_small, f.charges))

  pub small : (some_row (above (2 ^ 62)) b.sheet.cores ≡ false) × (some_row (above (2 ^ 62)) b.sheet.processes ≡ false)
  small = (cores_small (2 ^ 62) (omega (arith, f.short)), charges_small (2 ^ 62) (omega arith))
