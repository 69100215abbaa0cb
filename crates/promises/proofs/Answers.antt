-- The answer from tables that show a history is the answer of the history: each rule says the same of what the tables have and of what the history
-- has. Where 9 is broken, what the rules after it say does not matter.
use Rattle.std.proofs.Common.{None, Some}
use mathlib.Core.Path.{◌≡◌, refl, ap}
use mathlib.Core.Bool.{Bool, true, false, ◌&&◌, ◌||◌, cond}
use mathlib.Core.List.{List, [], ◌∷◌}
use Prim.Native.Nat.{ℕ, ◌+◌}
use native.Mathlib.Omega.{arith}
use lib.Dec.{eqb, leb, ltb}
use lib.ListN.{length}
use Rattle.text.specs.Bytes.{same_bytes}
use Rattle.text.specs.Sizes.{name_limit, core_limit}
use Rattle.rules.specs.Words.{core}
use Rattle.rules.specs.Limits.{instance_limit}
use Rattle.rules.specs.Event.{Event}
use Rattle.rules.specs.Core.{on_core}
use Rattle.rules.specs.History.{has_instances, is_tracked, names, cores, kind_of, entries, last_time as timeBefore}
use Rattle.rules.specs.Refusals.{Known, look, less, differs, time_falls, source_clash, target_clash, second_kind}
use Rattle.rules.specs.Refusals.{is_next_activation, needs_one, no_room, event_tests, answer_to}
use Rattle.rules.specs.Verdict.{answer, Accepted}
use Rattle.rules.proofs.Meets.{Met}
use Rattle.rules.proofs.Terminated.{later}
use Rattle.steps.specs.Rows.{opened}
use Rattle.tables.specs.Entry.{started_entry, name_count, core_count, last_time}
use Rattle.lookup.specs.declared.look.LookedUp.{LookedUp}
use Rattle.lookup.specs.LookedUp.{looked_up, new_core, new_name}
use Rattle.decide.specs.Known.{kind_in, known_by}
use Rattle.judge.specs.Feed.{Tables}
use Rattle.promises.specs.Shown.{Shown, started_of, last_of}
use Rattle.promises.specs.Taken.{looked_up_in}
use Rattle.promises.proofs.Listed.{AllMet}
use Rattle.promises.proofs.Grown.{names_length, cores_length}
use Rattle.promises.proofs.Lookups.{looked_up_source, looked_up_target, looked_up_shown, entry_told, new_core_lem, new_name_lem}
use Rattle.promises.proofs.Choices.{where_true}
use Rattle.promises.proofs.Told.{kind_told}
use Rattle.promises.proofs.Later.{known, source_asked, target_asked, first_number_shown, next_agrees, later_agrees}

-- the time of the event line before
time_told : (h : List Event) (nums ticks : List ℕ) → started_entry nums ≡ started_of h → last_time ticks ≡ last_of h →
    cond (eqb (started_entry nums) 0) None (Some (last_time ticks)) ≡ timeBefore h
time_told [] nums ticks p q = rw p
time_told (e ∷ h) nums ticks p q = rw (p, q)

-- the rules after 9
abbrev rest : Known → Event → ℕ
rest k e = cond (no_room k e) 10 (later k e)

module _ (h : List Event) (a : Accepted h) (met : AllMet h) (t : Tables) (s : Shown h t) (e : Event) where
  -- what the tables have for the event, by the rows that were looked up
  abbrev asked : LookedUp → Known
  asked v = known_by t.nums t.ticks v e

  -- ---- 8

  time_agrees : (v : LookedUp) → time_falls (asked v) e ≡ time_falls (look h e) e
  unfolding time_falls known_by
  time_agrees v = ap (less e.time) (time_told h t.nums t.ticks s.singles.started s.singles.last)

  -- ---- 9: the source is looked up where the event is on a core, and only there is it asked for

  source_agrees : (v : LookedUp) → v.source ≡ (looked_up_in h t e).source → source_clash (asked v) e ≡ source_clash (look h e) e
  unfolding source_clash known_by
  source_agrees v q = by_test (on_core e) refl
    where
      by_test : (b : Bool) → on_core e ≡ b →
          b && (differs (opened (kind_in t.nums v.source)) core || same_bytes e.source e.target)
          ≡ b && (differs (kind_of e.source h) core || same_bytes e.source e.target)
      by_test true o = rw (q, source_asked h t e o, kind_told h a t s e.source)
      by_test false o = refl

  target_agrees : (v : LookedUp) → v.target ≡ (looked_up_in h t e).target → target_clash (asked v) e ≡ target_clash (look h e) e
  unfolding target_clash known_by
  target_agrees v q = by_test (is_tracked e.kind) refl
    where
      by_test : (b : Bool) → is_tracked e.kind ≡ b →
          b && differs (opened (kind_in t.nums v.target)) e.kind ≡ b && differs (kind_of e.target h) e.kind
      by_test true k = rw (q, target_asked h t e k, kind_told h a t s e.target)
      by_test false k = refl

  module _ (f : second_kind (look h e) e ≡ false) where
    -- ---- 10

    room_agrees : no_room (known h t e) e ≡ no_room (look h e) e
    unfolding no_room needs_one is_next_activation known_by
    room_agrees =
        rw (names_more, cores_more, s.singles.entries_counted)
        (ap (λ (b : Bool). ltb name_limit (length (names (e ∷ h))) || (ltb core_limit (length (cores (e ∷ h))) || (leb instance_limit (length (entries h)) && b)))
        (where_true (has_instances e.kind) _ _ (λ i. rw (entry_told h a met t s e f i, first_number_shown h a met t s e f i, next_agrees h a met t s e f i))))
      where
        names_more : name_count t.nums + new_core (looked_up_in h t e) + new_name (looked_up_in h t e) e.kind ≡ length (names (e ∷ h))
        names_more = omega (arith, s.singles.names_counted, new_core_lem h t e, new_name_lem h t e, names_length h e f)

        cores_more : core_count t.nums + new_core (looked_up_in h t e) ≡ length (cores (e ∷ h))
        cores_more = omega (arith, s.singles.cores_counted, new_core_lem h t e, cores_length h e f)

    rest_agrees : Met e → (v : LookedUp) → v ≡ looked_up_in h t e → rest (asked v) e ≡ rest (look h e) e
    rest_agrees m v q = rw (q, room_agrees, later_agrees h a met t s e f m)

  -- ---- the answer

  pub answers_agree : Met e → answer_to (known_by t.nums t.ticks (looked_up t.names t.nums e) e) e ≡ answer h e
  unfolding answer_to event_tests second_kind
  answers_agree m =
      let v = looked_up t.names t.nums e in
      rw (time_agrees v, source_agrees v (looked_up_source h a met t s e), target_agrees v (looked_up_target h a met t s e))
      (by_nine (time_falls (look h e) e) (second_kind (look h e) e) refl)
    where
      by_nine : (b d : Bool) → second_kind (look h e) e ≡ d →
          cond b 8 (cond d 9 (rest (asked (looked_up t.names t.nums e)) e)) ≡ cond b 8 (cond d 9 (rest (look h e) e))
      by_nine true d q = refl
      by_nine false true q = refl
      by_nine false false q = rest_agrees q m (looked_up t.names t.nums e) (looked_up_shown h a met t s e)
