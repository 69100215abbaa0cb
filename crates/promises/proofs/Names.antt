-- A line that is taken keeps the rows by name: after it each tracked name has its row, and the row has what the longer history says of the name.
use mathlib.Core.Path.{◌≡◌, sym, ap, ◌∙◌}
use mathlib.Core.Bool.{true}
use mathlib.Core.List.{List, ◌∷◌}
use Prim.Native.Nat.{ℕ, ◌≤◌, ◌<◌}
use lib.ListN.{length}
use Rattle.text.specs.Bytes.{same_bytes}
use Rattle.text.specs.Lists.{any}
use Rattle.text.proofs.Names.{name_length}
use Rattle.rules.specs.Lists.{one_if}
use Rattle.rules.specs.Event.{Event, instance_of, state_of}
use Rattle.rules.specs.Core.{on_core}
use Rattle.rules.specs.History.{is_tracked, names}
use Rattle.rules.specs.Verdict.{Accepted}
use Rattle.rules.proofs.Tests.{both}
use Rattle.rules.proofs.Answers.{Passed}
use Rattle.rules.proofs.Meets.{Met}
use Rattle.steps.specs.Rows.{opened}
use Rattle.tables.specs.Entry.{name_rows, name_room, name_count, name_at, length_at}
use Rattle.store.specs.Store.{target_row, taken_tables}
use Rattle.judge.specs.Feed.{Tables}
use Rattle.promises.specs.Places.{row_of}
use Rattle.promises.specs.Shown.{NameShown, Shown}
use Rattle.promises.specs.Taken.{looked_up_in}
use Rattle.promises.proofs.Origins.{NameFrom, name_from}
use Rattle.promises.proofs.Origins.NameFrom.{before, as_source, as_target}
use Rattle.promises.proofs.Listed.{AllMet, name_size}
use Rattle.promises.proofs.Grown.{row_stays, source_row_new}
use Rattle.promises.proofs.Lookups.{new_core_lem, new_name_lem, target_row_lem}
use Rattle.promises.proofs.NameEntries.{name_kept, name_of_core, name_of_target}
use Rattle.promises.proofs.Rows.{row_bound, at_new_core, at_new_target}
use Rattle.promises.proofs.Ages.{not_new}
use Rattle.promises.proofs.NameKinds.{kind_next}
use Rattle.promises.proofs.NameNumbers.{number_next, numbered_next, first_next, holder_next}
use Rattle.promises.proofs.Standings.{standing_next}

module _ (h : List Event) (a : Accepted h) (m : AllMet h) (t : Tables) (s : Shown h t) (e : Event) (f : Passed h e) (o : Met e) (state : ℕ)
    (l : opened state ≡ state_of (instance_of e) (e ∷ h)) where
  abbrev after : Tables
  after = taken_tables t (looked_up_in h t e) state e

  module _ (n : List ℕ) (q : any (same_bytes n) (names (e ∷ h)) ≡ true) where
    abbrev row : ℕ
    row = row_of (e ∷ h) n

    named_next : (name_at after.names after.nums row ≡ n) × (length_at after.nums row ≡ length n)
    named_next = by_origin (name_from h e n q)
      where
        inside : row < name_rows
        inside = row_bound h t s e f n q

        source_size : length e.source ≤ name_room
        source_size = (name_length e.source o.source_name).1

        target_size : length e.target ≤ name_room
        target_size = (name_length e.target o.target_name).1

        by_origin : NameFrom h e n → (name_at after.names after.nums row ≡ n) × (length_at after.nums row ≡ length n)
        by_origin (before p) =
            let stays = row_stays h e f.kinds n p in
            let shown = s.each_name n p in
            name_kept t.names t.nums s.sized.names_sized s.sized.nums_sized (looked_up_in h t e) state e source_size target_size row n inside
            (at_new_target h t s e f n q ∙ not_new h e n p (is_tracked e.kind) e.target)
            (at_new_core h t s e f n q ∙ not_new h e n p (on_core e) e.source)
            (name_size h m n p).1
            (rw stays shown.name)
            (rw stays shown.size)
        by_origin (as_source u p) =
            let at : row ≡ name_count t.nums = ap (row_of (e ∷ h)) p ∙ source_row_new h e f.kinds u ∙ sym s.singles.names_counted in
            rw (at, p)
            (name_of_core t.names t.nums s.sized.names_sized s.sized.nums_sized (looked_up_in h t e) state e source_size target_size
            (new_core_lem h t e ∙ ap one_if u)
            (rw (← at) inside))
        by_origin (as_target u p) =
            let at : row ≡ target_row t.nums (looked_up_in h t e) =
            ap (row_of (e ∷ h)) p ∙ sym (target_row_lem h t s e f.kinds (both (is_tracked e.kind) _ u).0) in
            rw (at, p)
            (name_of_target t.names t.nums s.sized.names_sized s.sized.nums_sized (looked_up_in h t e) state e source_size target_size
            (new_name_lem h t e ∙ ap one_if u)
            (rw (← at) inside))

    pub each_name_next : NameShown (e ∷ h) after.names after.nums row n
    each_name_next =
        record {
          name = named_next.0;
          size = named_next.1;
          kind = kind_next h t s e f state n q;
          standing = standing_next h a t s e f state l n q;
          holder = holder_next h t s e f state n q a;
          numbered = numbered_next h t s e f state n q;
          number = number_next h t s e f state n q;
          first_number_stands = first_next h t s e f state n q;
        }
