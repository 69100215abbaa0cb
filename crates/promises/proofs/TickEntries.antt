-- What each entry of ticks is after an event line is taken, for any tables of the right size: the two times, and the four sums of each row. The
-- rows of the line's core and target are stored to, every other row is kept.
use Rattle.std.proofs.Common.{None, Some, Option}
use mathlib.Core.Path.{◌≡◌, refl, sym, ap, ◌∙◌}
use mathlib.Core.Bool.{Bool, true, false, not, ◌&&◌, cond}
use mathlib.Core.List.{List}
use Prim.Native.Nat.{ℕ, ◌+◌, ◌-◌, ◌%◌, ◌^◌, ◌<◌}
use native.Mathlib.Omega.{arith}
use lib.Dec.{eqb}
use lib.ListN.{length, set, length-set}
use borrow.Author.Tests.{eqb-true, eq-eqb, ne_eqb}
use Rattle.rules.specs.Core.{no_core, takes_core, gives_core}
use Rattle.tables.specs.Entry.{name_rows, ticks_size, first_index, last_index, started_entry, name_count, first_time, last_time, since_at}
use Rattle.tables.proofs.Stores.{single, before}
use Rattle.lookup.specs.declared.look.LookedUp.{LookedUp}
use Rattle.lookup.specs.LookedUp.{rows_added, new_core, new_name}
use Rattle.store.specs.Store.{row_or, core_row, target_row, store_sums, settled, with_times, with_sums, taken_ticks}
use Rattle.store.proofs.Stores.{length_store_sums, length_with_sums, length_settled}
use Rattle.promises.proofs.TickStores.{Sums, sums, sums_at, begun, core_settled, target_settled, settled_off, settled_at, settled_sums, either_kept}
use Rattle.promises.proofs.TickStores.{first_begun, first_settled}

-- ---- what the tables must have for the stores to be made: rows in range, and the core's and the target's apart

pub record Rows (nums : List ℕ) (s : LookedUp) (kind : ℕ) : Type 0 where
  pub core : eqb s.class no_core ≡ false → core_row nums s < name_rows
  pub target : eqb s.class no_core ≡ false → target_row nums s < name_rows
  pub apart : eqb s.class no_core ≡ false → core_row nums s ≡ target_row nums s → ⊥
  pub new_name_lem : new_name s kind ≡ 1 → target_row nums s < name_rows

-- a new core is the next name
new_core_lem : (nums : List ℕ) (s : LookedUp) → new_core s ≡ 1 → (eqb s.class no_core ≡ false) × (core_row nums s ≡ name_count nums)
unfolding core_row
new_core_lem nums s q = by_case (eqb s.class no_core) s.source q
  where
    by_case : (b : Bool) (f : Option ℕ) → rows_added (not b) f ≡ 1 → (b ≡ false) × (row_or f (name_count nums) ≡ name_count nums)
    by_case true f q = absurd (omega (arith, q))
    by_case false (Some i) q = absurd (omega (arith, q))
    by_case false None q = (refl, refl)

-- a new core's ticks before the line: none where nothing started
abbrev pub unknown_before : List ℕ → List ℕ → ℕ → ℕ
unknown_before ticks nums time = cond (eqb (started_entry nums) 0) 0 (time - first_time ticks)

module _ (ticks nums : List ℕ) (z : length ticks ≡ ticks_size) (s : LookedUp) (kind time : ℕ) where
  first_sums : first_time (with_sums ticks nums s kind time) ≡ first_time ticks
  unfolding with_sums
  first_sums =
      let one : first_time (cond (eqb (new_core s) 1) (store_sums ticks (name_count nums) (unknown_before ticks nums time) time) ticks) ≡ first_time ticks =
      either_kept (eqb (new_core s) 1) ticks _ ticks (λ q. first_begun ticks (name_count nums) _ time) (λ q. refl) in
      either_kept (eqb (new_name s kind) 1) ticks _ _ (λ q. first_begun _ (target_row nums s) 0 0 ∙ one) (λ q. one)

  -- the list to which the times are stored
  summed : List ℕ
  summed = settled (with_sums ticks nums s kind time) s.class (core_row nums s) (target_row nums s) time

  summed_size : length summed ≡ ticks_size
  unfolding summed
  summed_size = length_settled _ _ _ _ _ ∙ length_with_sums ticks nums s kind time ∙ z

  pub first_taken : first_time (taken_ticks ticks nums s kind time) ≡ cond (eqb (started_entry nums) 0) time (first_time ticks)
  unfolding taken_ticks with_times summed
  first_taken = by_test (eqb (started_entry nums) 0)
    where
      by_test : (b : Bool) → first_time (cond b (set (set summed first_index time) last_index time) (set summed last_index time)) ≡ cond b time (first_time ticks)
      by_test true = simp (single ticks_size, length-set, summed_size)
      by_test false =
          simp (single ticks_size, summed_size)
          (first_settled (with_sums ticks nums s kind time) s.class (core_row nums s) (target_row nums s) time ∙ first_sums)

  pub last_taken : last_time (taken_ticks ticks nums s kind time) ≡ time
  unfolding taken_ticks with_times summed
  last_taken = by_test (eqb (started_entry nums) 0)
    where
      by_test : (b : Bool) → last_time (cond b (set (set summed first_index time) last_index time) (set summed last_index time)) ≡ time
      by_test true = simp (single ticks_size, length-set, summed_size)
      by_test false = simp (single ticks_size, summed_size)

  times_sums : (r : ℕ) → sums_at (taken_ticks ticks nums s kind time) r ≡ sums_at summed r
  unfolding taken_ticks with_times summed
  times_sums r = by_test (eqb (started_entry nums) 0)
    where
      by_test : (b : Bool) → sums_at (cond b (set (set summed first_index time) last_index time) (set summed last_index time)) r ≡ sums_at summed r
      by_test true = simp before
      by_test false = simp before

  -- ---- the rows

  module _ (rows : Rows nums s kind) where
    -- the rows of new names begin anew
    new_sums : (r : ℕ) → r < name_rows → sums_at (with_sums ticks nums s kind time) r
        ≡ cond (eqb (new_name s kind) 1 && eqb r (target_row nums s)) (sums 0 0 0 0)
        (cond (eqb (new_core s) 1 && eqb r (core_row nums s)) (sums 0 0 (unknown_before ticks nums time) time) (sums_at ticks r))
    unfolding with_sums
    new_sums r k = by_name (eqb (new_name s kind) 1) refl _ (by_core (eqb (new_core s) 1) refl)
      where
        by_core : (b : Bool) → eqb (new_core s) 1 ≡ b →
            (length (cond b (store_sums ticks (name_count nums) (unknown_before ticks nums time) time) ticks) ≡ ticks_size)
            × (sums_at (cond b (store_sums ticks (name_count nums) (unknown_before ticks nums time) time) ticks) r
            ≡ cond (b && eqb r (core_row nums s)) (sums 0 0 (unknown_before ticks nums time) time) (sums_at ticks r))
        by_core true q =
            let n = new_core_lem nums s (eqb-true (new_core s) 1 q) in
            let i = rows.core n.0 in (
              length_store_sums ticks (name_count nums) _ time ∙ z,
              rw n.1 (begun ticks z (name_count nums) (unknown_before ticks nums time) time r (omega (arith, n.1)) k),
            )
        by_core false q = (z, refl)

        by_name : (b : Bool) → eqb (new_name s kind) 1 ≡ b → (one : List ℕ) {c : Sums} → (length one ≡ ticks_size) × (sums_at one r ≡ c) →
            sums_at (cond b (store_sums one (target_row nums s) 0 0) one) r ≡ cond (b && eqb r (target_row nums s)) (sums 0 0 0 0) c
        by_name true q one w =
            begun one w.0 (target_row nums s) 0 0 r (rows.new_name_lem (eqb-true (new_name s kind) 1 q)) k
            ∙ ap (cond (eqb r (target_row nums s)) (sums 0 0 0 0)) w.1
        by_name false q one w = w.1

    -- the core's row before it is settled
    core_begun : eqb s.class no_core ≡ false → sums_at (with_sums ticks nums s kind time) (core_row nums s)
        ≡ cond (eqb (new_core s) 1) (sums 0 0 (unknown_before ticks nums time) time) (sums_at ticks (core_row nums s))
    core_begun c =
        new_sums (core_row nums s) (rows.core c)
        ∙ rw (ne_eqb (core_row nums s) (target_row nums s) (rows.apart c), eq-eqb (core_row nums s) (core_row nums s) refl)
        (by_tests (eqb (new_name s kind) 1) (eqb (new_core s) 1))
      where
        by_tests : (a b : Bool) →
            cond (a && false) (sums 0 0 0 0) (cond (b && true) (sums 0 0 (unknown_before ticks nums time) time) (sums_at ticks (core_row nums s)))
            ≡ cond b (sums 0 0 (unknown_before ticks nums time) time) (sums_at ticks (core_row nums s))
        by_tests true true = refl
        by_tests true false = refl
        by_tests false true = refl
        by_tests false false = refl

    settled_row : eqb s.class no_core ≡ false → (r : ℕ) → r < name_rows → sums_at (taken_ticks ticks nums s kind time) r
        ≡ settled_at (with_sums ticks nums s kind time) s.class (core_row nums s) (target_row nums s) time r
    unfolding summed
    settled_row c r k =
        times_sums r
        ∙ settled_sums (with_sums ticks nums s kind time) (length_with_sums ticks nums s kind time ∙ z) (core_row nums s) (target_row nums s) time r
        (rows.core c) (rows.target c) k s.class (rows.apart c)

    unsettled_row : eqb s.class no_core ≡ true → (r : ℕ) → sums_at (taken_ticks ticks nums s kind time) r ≡ sums_at (with_sums ticks nums s kind time) r
    unfolding summed
    unsettled_row c r =
        let class_zero = eqb-true s.class no_core c in
        let l = with_sums ticks nums s kind time in
        let not_taken = ne_eqb s.class takes_core (λ q. omega arith) in
        let not-given = ne_eqb s.class gives_core (λ q. omega arith) in
        times_sums r ∙ ap (λ (m : List ℕ). sums_at m r) (settled_off l s.class (core_row nums s) (target_row nums s) time not_taken not-given)

    settled_core : eqb s.class no_core ≡ false → sums_at (taken_ticks ticks nums s kind time) (core_row nums s)
        ≡ core_settled s.class time (cond (eqb (new_core s) 1) (sums 0 0 (unknown_before ticks nums time) time) (sums_at ticks (core_row nums s)))
    settled_core c =
        settled_row c (core_row nums s) (rows.core c)
        ∙ rw (eq-eqb (core_row nums s) (core_row nums s) refl) (ap (core_settled s.class time) (core_begun c))

    -- the core of the line: a new one, or one that has a row
    pub core_new : new_core s ≡ 1 → sums_at (taken_ticks ticks nums s kind time) (core_row nums s) ≡ sums 0 0 (unknown_before ticks nums time) time
    core_new n =
        settled_core (new_core_lem nums s n).0
        ∙ rw (eq-eqb (new_core s) 1 n) (by_class (eqb s.class takes_core) (eqb s.class gives_core))
      where
        none : (0 + (time - time)) % 2 ^ 64 ≡ 0
        none = omega arith

        by_class : (x y : Bool) → cond x (sums 0 ((0 + (time - time)) % 2 ^ 64) (unknown_before ticks nums time) time)
            (cond y (sums ((0 + (time - time)) % 2 ^ 64) 0 (unknown_before ticks nums time) time) (sums 0 0 (unknown_before ticks nums time) time))
            ≡ sums 0 0 (unknown_before ticks nums time) time
        by_class true y = rw none
        by_class false true = rw none
        by_class false false = refl

    pub core_settled_lem : eqb s.class no_core ≡ false → new_core s ≡ 0 →
        sums_at (taken_ticks ticks nums s kind time) (core_row nums s) ≡ core_settled s.class time (sums_at ticks (core_row nums s))
    core_settled_lem c n = settled_core c ∙ rw n

    -- the target's row: what a core had that it gives back, and nothing of a new one
    target_begun : target_row nums s < name_rows → sums_at (with_sums ticks nums s kind time) (target_row nums s)
        ≡ cond (eqb (new_name s kind) 1) (sums 0 0 0 0) (sums_at ticks (target_row nums s))
    target_begun k =
        new_sums (target_row nums s) k
        ∙ rw (eq-eqb (target_row nums s) (target_row nums s) refl) (by_tests (eqb (new_name s kind) 1) (eqb (new_core s) 1) refl)
      where
        by_tests : (a b : Bool) → eqb (new_core s) 1 ≡ b →
            cond (a && true) (sums 0 0 0 0)
            (cond (b && eqb (target_row nums s) (core_row nums s)) (sums 0 0 (unknown_before ticks nums time) time) (sums_at ticks (target_row nums s)))
            ≡ cond a (sums 0 0 0 0) (sums_at ticks (target_row nums s))
        by_tests true b q = refl
        by_tests false true q = rw (ne_eqb (target_row nums s) (core_row nums s) (λ e. rows.apart (new_core_lem nums s (eqb-true (new_core s) 1 q)).0 (sym e)))
        by_tests false false q = refl

    pub target_settled_lem : target_row nums s < name_rows → sums_at (taken_ticks ticks nums s kind time) (target_row nums s)
        ≡ target_settled s.class (cond (eqb (new_core s) 1) 0 (time - since_at ticks (core_row nums s)))
        (cond (eqb (new_name s kind) 1) (sums 0 0 0 0) (sums_at ticks (target_row nums s)))
    target_settled_lem k = by_class (eqb s.class no_core) refl
      where
        by_new : (b : Bool) → time - (cond b (sums 0 0 (unknown_before ticks nums time) time) (sums_at ticks (core_row nums s))).since
            ≡ cond b 0 (time - since_at ticks (core_row nums s))
        by_new true = omega arith
        by_new false = refl

        by_class : (b : Bool) → eqb s.class no_core ≡ b → sums_at (taken_ticks ticks nums s kind time) (target_row nums s)
            ≡ target_settled s.class (cond (eqb (new_core s) 1) 0 (time - since_at ticks (core_row nums s)))
            (cond (eqb (new_name s kind) 1) (sums 0 0 0 0) (sums_at ticks (target_row nums s)))
        by_class true q =
            let class_zero = eqb-true s.class no_core q in
            unsettled_row q (target_row nums s) ∙ target_begun k ∙ rw (ne_eqb s.class gives_core (λ e. omega arith))
        by_class false q =
            settled_row q (target_row nums s) k
            ∙ rw (ne_eqb (target_row nums s) (core_row nums s) (λ e. rows.apart q (sym e)), eq-eqb (target_row nums s) (target_row nums s) refl)
            (ap (target_settled s.class (time - since_at (with_sums ticks nums s kind time) (core_row nums s))) (target_begun k)
            ∙ ap (λ (n : ℕ). target_settled s.class n (cond (eqb (new_name s kind) 1) (sums 0 0 0 0) (sums_at ticks (target_row nums s))))
            (ap (λ (u : Sums). time - u.since) (core_begun q) ∙ by_new (eqb (new_core s) 1)))

    -- every other row
    pub row_kept : (r : ℕ) → r < name_rows → (eqb s.class no_core ≡ false → (core_row nums s ≡ r → ⊥) × (target_row nums s ≡ r → ⊥)) →
        (new_name s kind ≡ 1 → target_row nums s ≡ r → ⊥) →
        sums_at (taken_ticks ticks nums s kind time) r ≡ sums_at ticks r
    row_kept r k f g = by_class (eqb s.class no_core) refl
      where
        not_begun : sums_at (with_sums ticks nums s kind time) r ≡ sums_at ticks r
        not_begun = new_sums r k ∙ rw (no_target (eqb (new_name s kind) 1) refl, no_core (eqb (new_core s) 1) refl)
          where
            no_target : (b : Bool) → eqb (new_name s kind) 1 ≡ b → b && eqb r (target_row nums s) ≡ false
            no_target true q = ne_eqb r (target_row nums s) (λ e. g (eqb-true (new_name s kind) 1 q) (sym e))
            no_target false q = refl

            no_core : (b : Bool) → eqb (new_core s) 1 ≡ b → b && eqb r (core_row nums s) ≡ false
            no_core true q = ne_eqb r (core_row nums s) (λ e. (f (new_core_lem nums s (eqb-true (new_core s) 1 q)).0).0 (sym e))
            no_core false q = refl

        by_class : (b : Bool) → eqb s.class no_core ≡ b → sums_at (taken_ticks ticks nums s kind time) r ≡ sums_at ticks r
        by_class true q = unsettled_row q r ∙ not_begun
        by_class false q = settled_row q r k ∙ rw (ne_eqb r (core_row nums s) (λ e. (f q).0 (sym e)), ne_eqb r (target_row nums s) (λ e. (f q).1 (sym e))) not_begun
