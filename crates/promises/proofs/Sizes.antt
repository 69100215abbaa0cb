-- A line that is taken keeps the sizes of the tables, and their single entries: how many names, cores and entries there are, and the two times.
use mathlib.Core.Path.{◌≡◌, ◌∙◌}
use mathlib.Core.Bool.{cond}
use mathlib.Core.List.{List, [], ◌∷◌}
use Prim.Native.Nat.{ℕ}
use native.Mathlib.Omega.{arith}
use lib.Dec.{eqb}
use lib.ListN.{length}
use Rattle.rules.specs.Event.{Event}
use Rattle.rules.specs.History.{entries}
use Rattle.rules.proofs.Answers.{Passed}
use Rattle.rules.proofs.Room.{room_parts}
use Rattle.tables.specs.Entry.{instance_count}
use Rattle.tables.specs.Sized.{Sized}
use Rattle.store.specs.Store.{taken_tables}
use Rattle.store.proofs.Stores.{length_taken_names, length_taken_nums, length_taken_ticks}
use Rattle.judge.specs.Feed.{Tables}
use Rattle.promises.specs.Shown.{first_of, started_of, SinglesShown, Shown}
use Rattle.promises.specs.Taken.{looked_up_in}
use Rattle.promises.proofs.Grown.{names_length, cores_length}
use Rattle.promises.proofs.Lookups.{new_core_lem, new_name_lem}
use Rattle.promises.proofs.Entries.{started_taken, names_taken, cores_taken}
use Rattle.promises.proofs.TickEntries.{first_taken, last_taken}

-- the first time is that of the first event: of this one, where none was before
first_time_lem : (h : List Event) (e : Event) (started first : ℕ) → started ≡ started_of h → first ≡ first_of h →
    cond (eqb started 0) e.time first ≡ first_of (e ∷ h)
first_time_lem [] e started first p q = rw p
first_time_lem (d ∷ h) e started first p q = rw p q

module _ (h : List Event) (t : Tables) (s : Shown h t) (e : Event) (state : ℕ) where
  abbrev after : Tables
  after = taken_tables t (looked_up_in h t e) state e

  pub sized_next : Sized after.names after.nums after.ticks
  sized_next =
      record {
        names_sized = length_taken_names t.names t.nums (looked_up_in h t e) e.kind e.source e.target ∙ s.sized.names_sized;
        nums_sized = length_taken_nums t.nums (looked_up_in h t e) state e ∙ s.sized.nums_sized;
        ticks_sized = length_taken_ticks t.ticks t.nums (looked_up_in h t e) e.kind e.time ∙ s.sized.ticks_sized;
      }

  pub singles_next : Passed h e → instance_count after.nums ≡ length (entries (e ∷ h)) → SinglesShown (e ∷ h) after.nums after.ticks
  singles_next f counted =
      let fit = room_parts h e f.room in
      let old = s.singles in
      record {
        started = started_taken t.nums s.sized.nums_sized (looked_up_in h t e) state e;
        names_counted =
            names_taken t.nums s.sized.nums_sized (looked_up_in h t e) state e
            ∙ rw (new_core_lem h t e, new_name_lem h t e) (omega (arith, old.names_counted, names_length h e f.kinds, fit.0));
        cores_counted =
            cores_taken t.nums s.sized.nums_sized (looked_up_in h t e) state e
            ∙ rw (new_core_lem h t e) (omega (arith, old.cores_counted, cores_length h e f.kinds, fit.1));
        entries_counted = counted;
        first = first_taken t.ticks t.nums s.sized.ticks_sized (looked_up_in h t e) e.kind e.time ∙ first_time_lem h e _ _ old.started old.first;
        last = last_taken t.ticks t.nums s.sized.ticks_sized (looked_up_in h t e) e.kind e.time;
      }
