-- A line that is taken keeps the index: its new names go into it one after another, the source's before the target's, so the places are again those that the
-- names give in their order. For any tables of the right sizes with names that fit; and so where the tables show a history.
use Rattle.std.proofs.Common.{None, Some, Option}
use mathlib.Core.Path.{◌≡◌, refl, sym, ap, subst, ◌∙◌}
use mathlib.Core.Bool.{Bool, true, false, not, cond, and-false}
use mathlib.Core.List.{List}
use Prim.Native.Nat.{ℕ, suc, ◌+◌, ◌≤◌, ◌<◌}
use native.Mathlib.Numerals.{add-one}
use native.Mathlib.Omega.{arith}
use lib.Dec.{eqb}
use lib.ListN.{length}
use borrow.Author.Tests.{eqb-true, eqb-false, ne_eqb, lt-ltb}
use Rattle.text.proofs.Bools.{is_false}
use Rattle.text.proofs.Names.{name_length}
use Rattle.rules.specs.Event.{Event}
use Rattle.rules.specs.Core.{no_core}
use Rattle.rules.specs.History.{is_tracked}
use Rattle.rules.proofs.Tests.{both}
use Rattle.rules.proofs.Answers.{Passed}
use Rattle.rules.proofs.Meets.{Met}
use Rattle.rules.proofs.Room.{room_parts}
use Rattle.tables.specs.Entry.{name_rows, name_room, place_rows, names_size, nums_size, name_count, length_at, name_at, places}
use Rattle.tables.proofs.NameBytes.{name_size}
use Rattle.index.specs.Hash.{home_of}
use Rattle.index.specs.Index.{free, index_of, home_at, index_from}
use Rattle.index.proofs.Folds.{home_at_lt}
use Rattle.index.proofs.Right.{free_met}
use Rattle.index.proofs.Indexes.{same_places, index_names, place_stored}
use Rattle.lookup.specs.declared.look.LookedUp.{LookedUp}
use Rattle.lookup.specs.LookedUp.{rows_added, new_core, new_name}
use Rattle.lookup.proofs.Added.{one_at_most, one_core}
use Rattle.store.specs.Store.{row_or, core_row, target_row, store_place, taken_names, with_places, taken_entries, taken_nums, taken_tables}
use Rattle.store.proofs.Stores.{length_taken_entries}
use Rattle.judge.specs.Feed.{Tables}
use Rattle.promises.specs.Shown.{Shown}
use Rattle.promises.specs.Taken.{looked_up_in}
use Rattle.promises.proofs.Listed.{AllMet, name_at_lem, name_size as listed-size}
use Rattle.promises.proofs.Grown.{names_length}
use Rattle.promises.proofs.Lookups.{new_core_lem, new_name_lem}
use Rattle.promises.proofs.Columns.{is_new_core, is_new_target, entry_beside}
use Rattle.promises.proofs.Entries.{counted, rows_before, names_taken}
use Rattle.promises.proofs.NameEntries.{name_kept, name_of_core, name_of_target}

-- ---- the rows of new names are the next ones

next_row : (b : Bool) (f : Option ℕ) (n : ℕ) → rows_added b f ≡ 1 → row_or f n ≡ n
next_row false f n q = absurd (omega (arith, q))
next_row true (Some i) n q = absurd (omega (arith, q))
next_row true None n q = refl

module _ (nums : List ℕ) (s : LookedUp) where
  core_next : new_core s ≡ 1 → core_row nums s ≡ name_count nums
  unfolding core_row
  core_next = next_row (not (eqb s.class no_core)) s.source (name_count nums)

  target_next : (kind : ℕ) → new_name s kind ≡ 1 → target_row nums s ≡ name_count nums + new_core s
  unfolding target_row
  target_next kind = next_row (is_tracked kind) s.target (name_count nums + new_core s)

-- ---- the stores before those to the places reach no place

places_kept : (nums : List ℕ) → length nums ≡ nums_size → (s : LookedUp) (t : ℕ) (e : Event) → places (taken_entries nums s t e) ≡ places nums
unfolding taken_entries
places_kept nums z s t e =
    same_places nums (taken_entries nums s t e) z (length_taken_entries nums s t e ∙ z) (λ j h.
    entry_beside (counted nums z s t e) s.instance (target_row nums s) e.kind e.target_instance t j (λ l u. omega arith) (λ q. omega arith)
    ∙ rows_before nums z s t e j (omega arith))

-- ---- rows put into the index, whatever their homes

module _ (home : ℕ → ℕ) (small : (r : ℕ) → home r < place_rows) where
  -- the next row: a free place is met
  placed : (l : List ℕ) (n : ℕ) → n < name_rows → places l ≡ index_of home n → places (store_place l n (home n)) ≡ index_of home (suc n)
  unfolding store_place index_of
  placed l n h e =
      let p = free (index_of home n) (home n) in
      let k = (free_met home n (omega arith) (λ r b. small r)).0 in
      rw (e, lt-ltb n name_rows h, lt-ltb p place_rows k) (place_stored l p (n + 1) k ∙ rw (e, add-one n))

  -- of a row that is new or not
  placed_if : (l : List ℕ) (n a i at : ℕ) → a ≤ 1 → (a ≡ 1 → (n < name_rows) × (i ≡ n) × (at ≡ home n)) → places l ≡ index_of home n →
      places (cond (eqb a 1) (store_place l i at) l) ≡ index_of home (n + a)
  placed_if l n a i at m new e = by_test (eqb a 1) refl
    where
      by_test : (b : Bool) → eqb a 1 ≡ b → places (cond b (store_place l i at) l) ≡ index_of home (n + a)
      by_test true q =
          let o = eqb-true a 1 q in
          let w = new o in
          let c : suc n ≡ n + a = omega arith in
          rw (w.1, w.2) (placed l n w.0 e ∙ ap (index_of home) c)
      by_test false q =
          let o = eqb-false a 1 q in
          let c : n ≡ n + a = omega arith in
          e ∙ ap (index_of home) c

  -- the rows of a line's new names
  taken_placed : (nums : List ℕ) → length nums ≡ nums_size → (s : LookedUp) (t : ℕ) (e : Event) → name_count nums + (new_core s + new_name s e.kind) ≤ name_rows →
      (new_core s ≡ 1 → home (name_count nums) ≡ home_of e.source) → (new_name s e.kind ≡ 1 → home (target_row nums s) ≡ home_of e.target) →
      places nums ≡ index_of home (name_count nums) → places (taken_nums nums s t e) ≡ index_of home (name_count nums + new_core s + new_name s e.kind)
  unfolding taken_nums with_places
  taken_placed nums z s t e room core target i =
      let l = taken_entries nums s t e in
      let one = cond (eqb (new_core s) 1) (store_place l (core_row nums s) (home_of e.source)) l in
      placed_if one (name_count nums + new_core s) (new_name s e.kind) (target_row nums s) (home_of e.target) (one_at_most (is_tracked e.kind) s.target refl)
      (λ q. let w = target_next nums s e.kind q in (omega arith, w, sym (target q) ∙ ap home w))
      (placed_if l (name_count nums) (new_core s) (core_row nums s) (home_of e.source) (one_core s refl)
      (λ q. (omega arith, core_next nums s q, sym (core q)))
      (places_kept nums z s t e ∙ i))

-- ---- with the homes of the names

module _ (names nums : List ℕ) (y : length names ≡ names_size) (z : length nums ≡ nums_size) (s : LookedUp) (t : ℕ) (e : Event)
    (f : length e.source ≤ name_room) (g : length e.target ≤ name_room)
    (room : name_count nums + (new_core s + new_name s e.kind) ≤ name_rows) (short : (r : ℕ) → r < name_count nums → length_at nums r ≤ name_room) where
  abbrev names' : List ℕ
  names' = taken_names names nums s e.kind e.source e.target

  abbrev nums' : List ℕ
  nums' = taken_nums nums s t e

  row_kept : (r : ℕ) → r < name_count nums → name_at names' nums' r ≡ name_at names nums r
  row_kept r h =
      let k = name_size names nums r y (omega arith) (short r h) in
      (name_kept names nums y z s t e f g r (name_at names nums r) (omega arith) not_target not_core (omega (arith, k, short r h)) refl (sym k)).0
    where
      not_target : is_new_target nums s e.kind r ≡ false
      not_target =
          is_false _ (λ p.
          let b = both (eqb (new_name s e.kind) 1) (eqb r (target_row nums s)) p in
          omega (arith, target_next nums s e.kind (eqb-true _ 1 b.0), eqb-true r _ b.1))

      not_core : is_new_core nums s r ≡ false
      not_core = rw (ne_eqb r (name_count nums) (λ q. omega arith)) (and-false (eqb (new_core s) 1))

  index_taken : places nums ≡ index_from names nums → places nums' ≡ index_from names' nums'
  unfolding index_from home_at
  index_taken i =
      let all : name_count nums + new_core s + new_name s e.kind ≡ name_count nums' = omega (arith, names_taken nums z s t e) in
      taken_placed (home_at names' nums') (home_at_lt names' nums') nums z s t e room
      (λ q. ap home_of (name_of_core names nums y z s t e f g q (omega arith)).0)
      (λ q. ap home_of (name_of_target names nums y z s t e f g q (omega (arith, target_next nums s e.kind q))).0)
      (i ∙ sym (index_names names nums names' nums' row_kept))
      ∙ ap (index_of (home_at names' nums')) all

-- ---- in tables that show a history

module _ (h : List Event) (m : AllMet h) (t : Tables) (s : Shown h t) (e : Event) (f : Passed h e) (o : Met e) (state : ℕ) where
  abbrev after : Tables
  after = taken_tables t (looked_up_in h t e) state e

  pub indexed_next : places after.nums ≡ index_from after.names after.nums
  indexed_next =
      index_taken t.names t.nums s.sized.names_sized s.sized.nums_sized (looked_up_in h t e) state e
      (name_length e.source o.source_name).1 (name_length e.target o.target_name).1
      (omega (arith, new_core_lem h t e, new_name_lem h t e, s.singles.names_counted, names_length h e f.kinds, (room_parts h e f.room).0))
      short
      s.indexed
    where
      short : (r : ℕ) → r < name_count t.nums → length_at t.nums r ≤ name_room
      short r b =
          let n = name_at_lem h r (omega (arith, b, s.singles.names_counted)) in
          subst (λ (k : ℕ). length_at t.nums k ≤ name_room) n.2 (omega (arith, (s.each_name n.0 n.1).size, (listed-size h m n.0 n.1).1))
