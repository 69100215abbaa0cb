-- The rows of instances after a line that is taken: its own instance has one from then on exactly if it needs an entry, and every other row is carried. So there are as many rows as
-- there are entries.
use Rattle.std.proofs.Common.{None, Some, Option}
use mathlib.Core.Path.{◌≡◌, refl, sym, ap, ap₂, subst, ◌∙◌}
use mathlib.Core.Bool.{Bool, true, false, not, ◌&&◌, cond}
use mathlib.Core.List.{List, ◌∷◌}
use Prim.Native.Nat.{ℕ, zero, suc, ◌+◌, ◌≤◌, ◌<◌}
use native.Mathlib.Omega.{arith}
use lib.Dec.{eqb, leb}
use lib.ListN.{length, get_or}
use borrow.Author.Tests.{lt-ltb}
use Rattle.text.proofs.Bools.{is_false}
use Rattle.rules.specs.Lists.{one_if}
use Rattle.rules.specs.Words.{semaphore, TERMINATED}
use Rattle.rules.specs.Event.{Event, Instance, instance_of, state_of}
use Rattle.rules.specs.History.{has_instances, first_number, reaches, is_terminated, needs_entry, entries, has_entry}
use Rattle.rules.specs.Verdict.{Accepted}
use Rattle.rules.proofs.Tests.{clash}
use Rattle.rules.proofs.Answers.{Passed, passed_accepted}
use Rattle.rules.proofs.Meets.{Met}
use Rattle.rules.proofs.Tracked.{target_kind}
use Rattle.rules.proofs.Seen.{own_number}
use Rattle.rules.proofs.Room.{all_fit, entries_now}
use Rattle.rules.proofs.Entries.{entry_exactly, entry_listed, listed, entries_counted}
use Rattle.steps.specs.Rows.{opened}
use Rattle.tables.specs.Entry.{column, entry_at, instance_rows, name_rows, nums_size, instances_index, numbered_column, first_number_column, owner_column, instance_column, state_column, place_column}
use Rattle.tables.specs.Entry.{instance_count, kind_at, numbered_at, first_number_at}
use Rattle.store.specs.Store.{target_row, needs_row, put_row, without_row, with_entry, taken_entries, taken_tables}
use Rattle.judge.specs.Feed.{Tables}
use Rattle.promises.specs.Places.{row_of}
use Rattle.promises.specs.Shown.{InstanceShown, Shown}
use Rattle.promises.specs.Taken.{looked_up_in, InstanceFound}
use Rattle.promises.proofs.KindTests.{instances_tracked, no_semaphore}
use Rattle.promises.proofs.Origins.{target_named}
use Rattle.promises.proofs.Listed.{instance_kind, AllMet}
use Rattle.promises.proofs.Lookups.{looked_up_instance, target_row_lem}
use Rattle.promises.proofs.Entries.{counted, counted_size, from_entries, from_counted, rows_before, count_before}
use Rattle.promises.proofs.Rows.{target_bound}
use Rattle.promises.proofs.Names.{each_name_next}
use Rattle.promises.proofs.Moves.{SameRow, Carried, HasRow, unmoved, found_count, found_own, found_carried, next_count, next_own, next_carried, back_count, back_carried, carried_as, carried_over, carried_on, has_on}

module _ (h : List Event) (a : Accepted h) (met : AllMet h) (t : Tables) (s : Shown h t) (e : Event) (f : Passed h e) (m : Met e) (state : ℕ)
    (l : opened state ≡ state_of (instance_of e) (e ∷ h)) where
  abbrev pub nums : List ℕ
  nums = t.nums

  abbrev pub after : Tables
  after = taken_tables t (looked_up_in h t e) state e

  abbrev pub own : Instance
  own = instance_of e

  -- the row of its name, and nums before its own store
  abbrev pub owner : ℕ
  owner = target_row t.nums (looked_up_in h t e)

  abbrev one : List ℕ
  one = counted t.nums s.sized.nums_sized (looked_up_in h t e) state e

  bound : has_instances e.kind ≡ true → owner < name_rows
  bound i = target_bound h t s e f (instances_tracked e.kind i)

  same_rows : (r : ℕ) → SameRow nums one r r
  same_rows r = record {
    owner = rows_before t.nums s.sized.nums_sized (looked_up_in h t e) state e (owner_column.base + r) (omega arith);
    number = rows_before t.nums s.sized.nums_sized (looked_up_in h t e) state e (instance_column.base + r) (omega arith);
    state = rows_before t.nums s.sized.nums_sized (looked_up_in h t e) state e (state_column.base + r) (omega arith);
  }

  same_count : instance_count one ≡ instance_count nums
  same_count = count_before t.nums s.sized.nums_sized (looked_up_in h t e) state e

  one_size : length one ≡ nums_size
  one_size = counted_size t.nums s.sized.nums_sized (looked_up_in h t e) state e

  few : instance_count one ≤ instance_rows
  few = omega (arith, same_count, s.singles.entries_counted, entries_now h (all_fit h a))

  -- ---- whether it needs an entry

  terminated_told : (n : ℕ) → is_terminated (opened n) ≡ eqb n TERMINATED
  terminated_told zero = refl
  terminated_told (suc n) = refl

  reached_told : (b : Bool) (g n : ℕ) → reaches (cond b None (Some g)) n ≡ not b && leb g n
  reached_told true g n = refl
  reached_told false g n = refl

  module _ (i : has_instances e.kind ≡ true) where
    -- its own store reaches no row of a name
    name_entry : (base : ℕ) → instances_index < base → base + name_rows ≤ owner_column.base →
        entry_at (column base name_rows) one owner ≡ entry_at (column base name_rows) after.nums owner
    name_entry base u v =
        sym (from_counted t.nums s.sized.nums_sized (looked_up_in h t e) state e (base + owner) (omega (arith, bound i)) (λ q. omega arith))

    -- the first number of its process or runnable, as it is from now on
    first_after : cond (eqb (numbered_at one owner) 0) None (Some (first_number_at one owner)) ≡ first_number e.kind e.target (e ∷ h)
    first_after =
        let k = instances_tracked e.kind i in
        let p = target_row_lem h t s e f.kinds k in
        let r = each_name_next h a met t s e f m state l e.target (target_named h e k) in
        let kind : kind_at after.nums (row_of (e ∷ h) e.target) ≡ e.kind = cc (r.kind, target_kind h e k) in
        ap₂ {C = Option ℕ} (λ (u v : ℕ). cond (eqb u 0) None (Some v))
        (name_entry numbered_column.base (omega arith) (omega arith) ∙ ap (numbered_at after.nums) p)
        (name_entry first_number_column.base (omega arith) (omega arith) ∙ ap (first_number_at after.nums) p)
        ∙ r.first_number_stands (ap (λ (j : ℕ). eqb j semaphore) kind ∙ no_semaphore e.kind i)
        ∙ ap (λ (j : ℕ). first_number j e.target (e ∷ h)) kind

    needs_told : needs_row one owner e.target_instance state ≡ needs_entry (e ∷ h) own
    unfolding needs_row needs_entry
    needs_told =
        rw (lt-ltb owner name_rows (bound i), ← terminated_told state, l, ← reached_told (eqb (numbered_at one owner) 0) (first_number_at one owner) e.target_instance, first_after, own_number e i)

    has_told : has_entry (e ∷ h) own ≡ needs_row one owner e.target_instance state
    has_told = entry_exactly (e ∷ h) own ∙ ap (λ (b : Bool). b && needs_entry (e ∷ h) own) (listed h e i) ∙ sym needs_told

  -- ---- the rows after it

  abbrev pub Stored : ℕ → ℕ → Type 0
  Stored to q = (has_entry (e ∷ h) own ≡ true) × (q ≡ to)

  -- `row` was that of its instance, or is none; `to` is that which was stored, if it has an entry now
  pub record RowsAfter (nums' : List ℕ) : Type 0 where
    pub row : ℕ
    pub to : ℕ
    pub carried : Carried nums nums' row (Stored to)
    pub had : has_entry h own ≡ true → InstanceShown h nums row own
    pub had_none : has_entry h own ≡ false → row ≡ instance_count nums
    pub has : has_entry (e ∷ h) own ≡ true → HasRow nums' to owner e.target_instance state
    pub counts : instance_count nums' + one_if (has_entry h own) ≡ instance_count nums + one_if (has_entry (e ∷ h) own)

  -- it has no row, before or after
  no_rows : has_entry h own ≡ false → has_entry (e ∷ h) own ≡ false → RowsAfter one
  no_rows p q = record {
    row = instance_count nums;
    to = 0;
    carried = carried_as nums one (instance_count nums) (λ r. ⊥) (Stored 0) (λ r x. absurd x) (unmoved nums one same_count same_rows);
    had = λ y. absurd (clash _ y p);
    had_none = λ y. refl;
    has = λ y. absurd (clash _ y q);
    counts = omega (arith, same_count, ap one_if p, ap one_if q);
  }

  module _ (i : has_instances e.kind ≡ true) where
    -- stored in the row that it had, or in a new one
    put_rows : (r : Option ℕ) → InstanceFound h nums own r → has_entry (e ∷ h) own ≡ true → RowsAfter (put_row one r owner e.target_instance state)
    put_rows (Some j) p q =
        let b : j < instance_count one = omega (arith, same_count, p.1.below) in
        record {
          row = j;
          to = j;
          carried =
              carried_over nums one _ j (Stored j) same_count same_rows
              (carried_as one _ j (λ r. r ≡ j) (Stored j) (λ r y. (q, y)) (found_carried one one_size j owner e.target_instance state (bound i) b few));
          had = λ y. p.1;
          had_none = λ y. absurd (clash _ p.0 y);
          has = λ y. found_own one one_size j owner e.target_instance state (bound i) b few;
          counts = omega (arith, found_count one one_size j owner e.target_instance state (bound i) b few, same_count, ap one_if p.0, ap one_if q);
        }
    put_rows None p q =
        let fit = entries_now (e ∷ h) (all_fit (e ∷ h) (passed_accepted h a e f)) in
        let b : instance_count one < instance_rows =
        omega (arith, same_count, s.singles.entries_counted, entries_counted h e f.number, ap one_if p, ap one_if q, fit) in
        record {
          row = instance_count nums;
          to = instance_count one;
          carried =
              subst (λ (k : ℕ). Carried nums (put_row one None owner e.target_instance state) k (Stored (instance_count one))) same_count
              (carried_over nums one _ (instance_count one) (Stored (instance_count one)) same_count same_rows
              (carried_as one _ (instance_count one) (λ r. r ≡ instance_count one) (Stored (instance_count one)) (λ r y. (q, y))
              (next_carried one one_size owner e.target_instance state (bound i) b)));
          had = λ y. absurd (clash _ y p);
          had_none = λ y. refl;
          has = λ y. next_own one one_size owner e.target_instance state (bound i) b;
          counts = omega (arith, next_count one one_size owner e.target_instance state (bound i) b, same_count, ap one_if p, ap one_if q);
        }

    -- given back, if it had one
    back_rows : (r : Option ℕ) → InstanceFound h nums own r → has_entry (e ∷ h) own ≡ false → RowsAfter (without_row one r)
    unfolding without_row
    back_rows (Some j) p q =
        let b : j < instance_count one = omega (arith, same_count, p.1.below) in
        record {
          row = j;
          to = 0;
          carried =
              carried_over nums one _ j (Stored 0) same_count same_rows
              (carried_as one _ j (λ r. ⊥) (Stored 0) (λ r y. absurd y) (back_carried one one_size j b few));
          had = λ y. p.1;
          had_none = λ y. absurd (clash _ p.0 y);
          has = λ y. absurd (clash _ y q);
          counts = omega (arith, back_count one one_size j b few, same_count, ap one_if p.0, ap one_if q);
        }
    back_rows None p q = no_rows p q

    kept_rows : (r : Option ℕ) → InstanceFound h nums own r → (b : Bool) → needs_row one owner e.target_instance state ≡ b →
        RowsAfter (cond b (put_row one r owner e.target_instance state) (without_row one r))
    kept_rows r p true q = put_rows r p (has_told i ∙ q)
    kept_rows r p false q = back_rows r p (has_told i ∙ q)

  -- a kind without instances has no entry
  kindless : has_instances e.kind ≡ false → (g : List Event) → Accepted g → has_entry g own ≡ false
  kindless i g b = is_false _ (λ q. clash _ (instance_kind g b own (entry_listed g own q)).0 i)

  -- before the places are stored to
  abbrev unplaced : List ℕ
  unplaced = taken_entries t.nums (looked_up_in h t e) state e

  rows_before_places : RowsAfter unplaced
  unfolding taken_entries with_entry
  rows_before_places = by_kind (has_instances e.kind) refl
    where
      by_kind : (b : Bool) → has_instances e.kind ≡ b →
          RowsAfter (cond b (cond (needs_row one owner e.target_instance state) (put_row one (looked_up_in h t e).instance owner e.target_instance state) (without_row one (looked_up_in h t e).instance)) one)
      by_kind true i = kept_rows i (looked_up_in h t e).instance (looked_up_instance h a met t s e f.kinds i) (needs_row one owner e.target_instance state) refl
      by_kind false i = no_rows (kindless i h a) (kindless i (e ∷ h) (passed_accepted h a e f))

  -- ---- so there are as many as there are entries

  counted_rows : (nums' : List ℕ) → RowsAfter nums' → instance_count nums' ≡ length (entries (e ∷ h))
  counted_rows nums' r = omega (arith, r.counts, entries_counted h e f.number, s.singles.entries_counted)

  -- ---- and no store to a place reaches them

  pub rows_after : RowsAfter after.nums
  rows_after =
      let r = rows_before_places in
      record {
        row = r.row;
        to = r.to;
        carried = carried_on unplaced after.nums as_many as_before nums r.row (Stored r.to) r.carried;
        had = r.had;
        had_none = r.had_none;
        has = λ y. has_on unplaced after.nums as_many as_before r.to owner e.target_instance state (r.has y);
        counts = rw as_many r.counts;
      }
    where
      entry : (j : ℕ) → j < place_column.base → get_or after.nums j 0 ≡ get_or unplaced j 0
      entry = from_entries t.nums s.sized.nums_sized (looked_up_in h t e) state e

      as_many : instance_count after.nums ≡ instance_count unplaced
      as_many = entry instances_index (omega arith)

      as_before : (r : ℕ) → r < instance_count unplaced → SameRow unplaced after.nums r r
      as_before r b =
          let fit = entries_now (e ∷ h) (all_fit (e ∷ h) (passed_accepted h a e f)) in
          let d : r < instance_rows = omega (arith, counted_rows unplaced rows_before_places) in
          record { owner = entry (owner_column.base + r) (omega arith); number = entry (instance_column.base + r) (omega arith); state = entry (state_column.base + r) (omega arith) }

  pub counted_next : instance_count after.nums ≡ length (entries (e ∷ h))
  counted_next = counted_rows after.nums rows_after
