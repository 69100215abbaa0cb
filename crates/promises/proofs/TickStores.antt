-- The sums of a row of ticks and the first time, after the stores that an event line makes: to the rows of new names, and to those of its core and
-- target where the core is settled.
use mathlib.Core.Path.{◌≡◌, refl, sym, ◌∙◌}
use mathlib.Core.Bool.{Bool, true, false, ◌&&◌, cond}
use mathlib.Core.List.{List}
use Prim.Native.Nat.{ℕ, ◌+◌, ◌-◌, ◌%◌, ◌^◌, ◌<◌}
use native.Mathlib.Omega.{arith}
use lib.Dec.{eqb, ltb}
use lib.ListN.{length, length-set}
use borrow.Author.Tests.{eqb-true, ne_eqb, lt-ltb, ltb-true}
use Rattle.rules.specs.Core.{takes_core, gives_core}
use Rattle.rules.proofs.Tests.{both}
use Rattle.tables.specs.Entry.{name_rows, ticks_size, first_index, held_column, since_column, first_time, held_at, idle_at, unknown_at, since_at}
use Rattle.tables.proofs.Stores.{cell, Outside, beside}
use Rattle.store.specs.Store.{store_sums, settled}
use Rattle.promises.proofs.Choices.{same_choice}

-- ---- the four sums of a row

pub record Sums : Type 0 where
  pub held : ℕ
  pub idle : ℕ
  pub unknown : ℕ
  pub since : ℕ

abbrev pub sums : ℕ → ℕ → ℕ → ℕ → Sums
sums a b d e = record { held = a; idle = b; unknown = d; since = e }

abbrev pub sums_at : List ℕ → ℕ → Sums
sums_at ticks r = sums (held_at ticks r) (idle_at ticks r) (unknown_at ticks r) (since_at ticks r)

-- ---- the row of a new name

pub begun : (l : List ℕ) → length l ≡ ticks_size → (i unknown since r : ℕ) → i < name_rows → r < name_rows →
    sums_at (store_sums l i unknown since) r ≡ cond (eqb r i) (sums 0 0 unknown since) (sums_at l r)
unfolding store_sums
begun l z i unknown since r p q = rw (lt-ltb i name_rows p) (simp (cell ticks_size name_rows, length-set, z) (by_test (eqb r i)))
  where
    by_test : (b : Bool) → sums (cond b 0 (held_at l r)) (cond b 0 (idle_at l r)) (cond b unknown (unknown_at l r)) (cond b since (since_at l r))
        ≡ cond b (sums 0 0 unknown since) (sums_at l r)
    by_test true = refl
    by_test false = refl

-- ---- what is settled

-- the line's core: its ticks from `since` on
abbrev pub core_settled : ℕ → ℕ → Sums → Sums
core_settled class time s =
    cond (eqb class takes_core) (sums s.held ((s.idle + (time - s.since)) % 2 ^ 64) s.unknown time)
    (cond (eqb class gives_core) (sums ((s.held + (time - s.since)) % 2 ^ 64) s.idle s.unknown time) s)

-- its target: the ticks of the core that it gives back
abbrev pub target_settled : ℕ → ℕ → Sums → Sums
target_settled class ticks s = cond (eqb class gives_core) (sums ((s.held + ticks) % 2 ^ 64) s.idle s.unknown s.since) s

pub settled_off : (l : List ℕ) (class i p time : ℕ) → eqb class takes_core ≡ false → eqb class gives_core ≡ false → settled l class i p time ≡ l
unfolding settled
settled_off l class i p time q u = rw (q, u, same_choice (ltb i name_rows && ltb p name_rows) l)

-- the row r of a list after another is settled to the rows i and p
abbrev pub settled_at : List ℕ → ℕ → ℕ → ℕ → ℕ → ℕ → Sums
settled_at l class i p time r =
    cond (eqb r i) (core_settled class time (sums_at l r)) (cond (eqb r p) (target_settled class (time - since_at l i) (sums_at l r)) (sums_at l r))

module _ (l : List ℕ) (z : length l ≡ ticks_size) (i p time r : ℕ) (n : i < name_rows) (m : p < name_rows) (k : r < name_rows) where
  by_taking : sums_at (settled l takes_core i p time) r ≡ settled_at l takes_core i p time r
  unfolding settled
  by_taking = rw (lt-ltb i name_rows n, lt-ltb p name_rows m) (simp (cell ticks_size name_rows, length-set, z) (by_row (eqb r i) refl (eqb r p)))
    where
      by_row : (b : Bool) → eqb r i ≡ b → (d : Bool) →
          sums (held_at l r) (cond b ((idle_at l i + (time - since_at l i)) % 2 ^ 64) (idle_at l r)) (unknown_at l r) (cond b time (since_at l r))
          ≡ cond b (core_settled takes_core time (sums_at l r)) (cond d (sums_at l r) (sums_at l r))
      by_row true q d = rw (← (eqb-true r i q))
      by_row false q true = refl
      by_row false q false = refl

  by_giving : (i ≡ p → ⊥) → sums_at (settled l gives_core i p time) r ≡ settled_at l gives_core i p time r
  unfolding settled
  by_giving d =
      rw (lt-ltb i name_rows n, lt-ltb p name_rows m)
      (simp (cell ticks_size name_rows, length-set, z, ne_eqb p i (λ q. d (sym q))) (by_row (eqb r i) refl (eqb r p) refl))
    where
      by_row : (b : Bool) → eqb r i ≡ b → (c : Bool) → eqb r p ≡ c →
          sums (cond c ((held_at l p + (time - since_at l i)) % 2 ^ 64) (cond b ((held_at l i + (time - since_at l i)) % 2 ^ 64) (held_at l r)))
          (idle_at l r) (unknown_at l r) (cond b time (since_at l r))
          ≡ cond b (core_settled gives_core time (sums_at l r)) (cond c (target_settled gives_core (time - since_at l i) (sums_at l r)) (sums_at l r))
      by_row true q true u = absurd (d (sym (eqb-true r i q) ∙ eqb-true r p u))
      by_row true q false u = rw (← (eqb-true r i q))
      by_row false q true u = rw (← (eqb-true r p u))
      by_row false q false u = refl

  pub settled_sums : (class : ℕ) → (i ≡ p → ⊥) → sums_at (settled l class i p time) r ≡ settled_at l class i p time r
  settled_sums class d = by_class (eqb class takes_core) refl (eqb class gives_core) refl
    where
      by_class : (x : Bool) → eqb class takes_core ≡ x → (y : Bool) → eqb class gives_core ≡ y →
          sums_at (settled l class i p time) r ≡ settled_at l class i p time r
      by_class true q y u = rw (eqb-true class takes_core q) by_taking
      by_class false q true u = rw (eqb-true class gives_core u) (by_giving d)
      by_class false q false u = rw (settled_off l class i p time q u, q, u, same_choice (eqb r p) (sums_at l r), same_choice (eqb r i) (sums_at l r))

-- ---- the first time: no sum is stored there

no_sum : Outside held_column since_column first_index
no_sum l u = omega arith

pub either_kept : (b : Bool) (l m n : List ℕ) → (b ≡ true → first_time m ≡ first_time l) → (b ≡ false → first_time n ≡ first_time l) →
    first_time (cond b m n) ≡ first_time l
either_kept true l m n q r = q refl
either_kept false l m n q r = r refl

pub first_begun : (l : List ℕ) (i unknown since : ℕ) → first_time (store_sums l i unknown since) ≡ first_time l
unfolding store_sums
first_begun l i unknown since =
    either_kept (ltb i name_rows) l _ l (λ t. let out = no_sum in let h = ltb-true i name_rows t in simp (beside held_column since_column name_rows)) (λ f. refl)

pub first_settled : (l : List ℕ) (class i p time : ℕ) → first_time (settled l class i p time) ≡ first_time l
unfolding settled
first_settled l class i p time =
    either_kept (ltb i name_rows && ltb p name_rows) l _ l
    (λ t.
    let out = no_sum in
    let h = ltb-true i name_rows (both (ltb i name_rows) (ltb p name_rows) t).0 in
    let k = ltb-true p name_rows (both (ltb i name_rows) (ltb p name_rows) t).1 in
    either_kept (eqb class takes_core) l _ _ (λ a. simp (beside held_column since_column name_rows))
    (λ a. either_kept (eqb class gives_core) l _ l (λ b. simp (beside held_column since_column name_rows)) (λ b. refl)))
    (λ f. refl)
