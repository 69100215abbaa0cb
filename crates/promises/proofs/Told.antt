-- What the tables that show a history say of a name or an instance that they are asked for: its kind, its state, its last number or count, its first number. Where
-- there is no row of it, the history tells nothing of it either.
use Rattle.std.proofs.Common.{None, Some, Option}
use mathlib.Core.Path.{◌≡◌, refl, sym, ap, ◌∙◌}
use mathlib.Core.Bool.{Bool, true, false, cond}
use mathlib.Core.List.{List, [], ◌∷◌}
use Prim.Native.Nat.{ℕ, zero, suc, ◌≤◌}
use native.Mathlib.Omega.{arith}
use lib.Dec.{eqb}
use lib.ListN.{length}
use borrow.Author.Tests.{eq-eqb, lt-ltb}
use Rattle.text.specs.Bytes.{same_bytes}
use Rattle.text.specs.Lists.{any}
use Rattle.rules.specs.Words.{core, semaphore}
use Rattle.rules.specs.Event.{Event, Instance, state_of}
use Rattle.rules.specs.Core.{held, core_at}
use Rattle.rules.specs.History.{names, kind_of, last_number, first_number, has_entry, last_count}
use Rattle.rules.specs.Verdict.{Accepted}
use Rattle.rules.proofs.Room.{all_fit}
use Rattle.rules.proofs.Seen.{Worded}
use Rattle.rules.proofs.Tests.{clash}
use Rattle.rules.proofs.Tracked.{kind_named, named_kind}
use Rattle.steps.specs.Rows.{opened}
use Rattle.tables.specs.Entry.{Column, column, entry_at, name_rows, instance_rows, kind_column, standing_column, number_column, numbered_column, first_number_column, state_column, kind_at}
use Rattle.decide.specs.Known.{entry_of, kind_in, standing_in, number_in, number_known}
use Rattle.judge.specs.Feed.{Tables}
use Rattle.promises.specs.Places.{place, seek, row_of}
use Rattle.promises.specs.Shown.{Shown, core_standing, the_semaphore, number_of}
use Rattle.promises.specs.Taken.{InstanceFound}
use Rattle.promises.proofs.Places.{place_bound}
use Rattle.promises.proofs.KindTests.{semaphore_tracked}
use Rattle.promises.proofs.Listed.{AllMet, name_kind}
use Rattle.promises.proofs.Lookups.{instance_below}
use Rattle.promises.proofs.CoreNames.{core_unknown, held_core}
use Rattle.promises.proofs.Untold.{no_number, no_first_number, no_count, no_state}

-- ---- an entry of the row that was found

module _ {A : Type 0} (f : A → Bool) (xs : List A) (nums : List ℕ) (c : Column) where
  entry_there : length xs ≤ c.rows → any f xs ≡ true → entry_of c nums (seek f xs) ≡ entry_at c nums (place f xs)
  unfolding seek entry_of
  entry_there l q = let b = place_bound f xs q in rw (q, lt-ltb (place f xs) c.rows (omega arith))

  entry_absent : any f xs ≡ false → entry_of c nums (seek f xs) ≡ 0
  unfolding seek entry_of
  entry_absent q = rw q

-- ---- what may be missing

opened_some : (n : ℕ) → 1 ≤ n → opened n ≡ Some n
opened_some zero l = absurd (omega arith)
opened_some (suc n) l = refl

pub all_worded : (h : List Event) → AllMet h → Worded h
all_worded [] m = tt
all_worded (e ∷ h) m = (m.0.worded, all_worded h m.1)

-- what 9 leaves: a name that has a kind has this one
abbrev pub Only : Option ℕ → ℕ → Type 0
Only o k = (j : ℕ) → o ≡ Some j → j ≡ k

module _ (h : List Event) (a : Accepted h) (t : Tables) (s : Shown h t) where
  -- ---- names

  module _ (n : List ℕ) where
    in_row : (base : ℕ) → let c = column base name_rows in any (same_bytes n) (names h) ≡ true →
        entry_of c t.nums (seek (same_bytes n) (names h)) ≡ entry_at c t.nums (row_of h n)
    in_row base q = entry_there (same_bytes n) (names h) t.nums (column base name_rows) (all_fit h a).names_fit q

    in_none : (c : Column) → any (same_bytes n) (names h) ≡ false → entry_of c t.nums (seek (same_bytes n) (names h)) ≡ 0
    in_none c q = entry_absent (same_bytes n) (names h) t.nums c q

    pub kind_told : opened (kind_in t.nums (seek (same_bytes n) (names h))) ≡ kind_of n h
    kind_told = by_test (any (same_bytes n) (names h)) refl
      where
        by_test : (b : Bool) → any (same_bytes n) (names h) ≡ b → opened (kind_in t.nums (seek (same_bytes n) (names h))) ≡ kind_of n h
        by_test true q =
            let k = name_kind h n q in
            let z : k.0 ≡ kind_at t.nums (row_of h n) = cc (k.1, (s.each_name n q).kind) in
            ap opened (in_row kind_column.base q) ∙ opened_some (kind_at t.nums (row_of h n)) (omega (arith, k.2)) ∙ sym (s.each_name n q).kind
        by_test false q = ap opened (in_none kind_column q) ∙ sym (kind_named h n q)

    -- a row of the name has the kind that 9 leaves
    kind_there : (k : ℕ) → Only (kind_of n h) k → any (same_bytes n) (names h) ≡ true → kind_at t.nums (row_of h n) ≡ k
    kind_there k o q = o (kind_at t.nums (row_of h n)) (s.each_name n q).kind

    pub core_told : Only (kind_of n h) core → standing_in t.nums (seek (same_bytes n) (names h)) ≡ core_standing h (core_at n h)
    core_told d = by_test (any (same_bytes n) (names h)) refl
      where
        by_test : (b : Bool) → any (same_bytes n) (names h) ≡ b → standing_in t.nums (seek (same_bytes n) (names h)) ≡ core_standing h (core_at n h)
        by_test true q = in_row standing_column.base q ∙ (s.each_name n q).standing.of_core (eq-eqb _ core (kind_there core d q))
        by_test false q = in_none standing_column q ∙ sym (ap (core_standing h) (core_unknown n h a (λ p. clash _ (named_kind h n core p _ refl) q)))

    -- the number of the instance that holds a core
    pub holder_told : (x : Instance) → core_at n h ≡ held x → number_in t.nums (seek (same_bytes n) (names h)) ≡ x.number
    holder_told x p =
        let q = named_kind h n core (held_core h a n x p) _ refl in
        in_row number_column.base q ∙ (s.each_name n q).holder x p

    pub semaphore_told : Only (kind_of n h) semaphore → opened (standing_in t.nums (seek (same_bytes n) (names h))) ≡ state_of (the_semaphore n) h
    semaphore_told d = by_test (any (same_bytes n) (names h)) refl
      where
        by_test : (b : Bool) → any (same_bytes n) (names h) ≡ b → opened (standing_in t.nums (seek (same_bytes n) (names h))) ≡ state_of (the_semaphore n) h
        by_test true q = ap opened (in_row standing_column.base q) ∙ (s.each_name n q).standing.of_semaphore (eq-eqb _ semaphore (kind_there semaphore d q))
        by_test false q = ap opened (in_none standing_column q) ∙ sym (no_state (the_semaphore n) (semaphore_tracked semaphore refl) h (kind_named h n q))

    pub number_told : (k : ℕ) → Only (kind_of n h) k → number_known number_column t.nums (seek (same_bytes n) (names h)) ≡ number_of h n k
    number_told k d = by_test (any (same_bytes n) (names h)) refl
      where
        no_entry : kind_of n h ≡ None → (b : Bool) → cond b (last_count n h) (last_number k n h) ≡ None
        no_entry q true = no_count n h q
        no_entry q false = no_number k n h q

        by_test : (b : Bool) → any (same_bytes n) (names h) ≡ b → number_known number_column t.nums (seek (same_bytes n) (names h)) ≡ number_of h n k
        by_test true q = rw (in_row numbered_column.base q, in_row number_column.base q) ((s.each_name n q).number ∙ ap (number_of h n) (kind_there k d q))
        by_test false q = rw (in_none numbered_column q) (sym (no_entry (kind_named h n q) (eqb k semaphore)))

    pub first_told : (k : ℕ) → Only (kind_of n h) k → eqb k semaphore ≡ false →
        number_known first_number_column t.nums (seek (same_bytes n) (names h)) ≡ first_number k n h
    first_told k d z = by_test (any (same_bytes n) (names h)) refl
      where
        by_test : (b : Bool) → any (same_bytes n) (names h) ≡ b → number_known first_number_column t.nums (seek (same_bytes n) (names h)) ≡ first_number k n h
        by_test true q =
            let c = kind_there k d q in
            rw (in_row numbered_column.base q, in_row first_number_column.base q)
            ((s.each_name n q).first_number_stands (ap (λ (j : ℕ). eqb j semaphore) c ∙ z) ∙ ap (λ (j : ℕ). first_number j n h) c)
        by_test false q = rw (in_none numbered_column q) (sym (no_first_number k n h (kind_named h n q)))

  -- ---- instances

  -- the state in the row that was found of an instance: that of one that has an entry
  pub state_told : (x : Instance) (r : Option ℕ) → InstanceFound h t.nums x r → opened (entry_of state_column t.nums r) ≡ cond (has_entry h x) (state_of x h) None
  unfolding entry_of
  state_told x (Some j) p = rw (lt-ltb j instance_rows (instance_below h a t s j x p.1), p.0) p.1.state
  state_told x None p = rw p
