-- An event line against tables that show a history: it is decided as the history says, and the tables after one that is taken show it too.
use Rattle.std.proofs.Common.{Err, Ok}
use mathlib.Core.Path.{◌≡◌, refl, sym}
use mathlib.Core.List.{List, [], ◌∷◌}
use Prim.Native.Nat.{ℕ, zero, suc}
use native.Mathlib.Omega.{arith}
use Rattle.fields.specs.Part.{field_of}
use Rattle.line.specs.declared.event.Event.{Event as ReadEvent}
use Rattle.line.specs.declared.reading.Reading.{Reading}
use Rattle.line.specs.declared.reading.Reading.TheVariants.{Version, Comment, TimeScale, Creator, CreationDate, EventLine, Refused}
use Rattle.line.specs.Reading.{read_line}
use Rattle.rules.specs.Lists.{if_zero}
use Rattle.rules.specs.Event.{Event}
use Rattle.rules.specs.Verdict.{answer, Accepted}
use Rattle.rules.specs.Lines.{event_from, event_in, event_of_line, with_event, events_of}
use Rattle.rules.proofs.Answers.{passed}
use Rattle.rules.proofs.Meets.{Met, line_meets}
use Rattle.rules.proofs.Traces.{Kept}
use Rattle.lookup.specs.declared.look.LookedUp.{LookedUp}
use Rattle.lookup.specs.LookedUp.{looked_up}
use Rattle.decide.specs.Decide.{Plan, enters, plan_by, plan_of}
use Rattle.store.specs.Store.{taken_tables}
use Rattle.judge.specs.Feed.{Tables, carried, judged_event}
use Rattle.promises.specs.Shown.{Shown, Shows}
use Rattle.promises.specs.Taken.{looked_up_in}
use Rattle.promises.proofs.Listed.{AllMet}
use Rattle.promises.proofs.Lookups.{looked_up_shown}
use Rattle.promises.proofs.Later.{enters_shown}
use Rattle.promises.proofs.Answers.{answers_agree}
use Rattle.promises.proofs.Entries.{lines_taken, verdict_number_kept, verdict_line_kept, scale_kept, creator_kept, date_kept}
use Rattle.promises.proofs.Names.{each_name_next}
use Rattle.promises.proofs.IndexNext.{indexed_next}
use Rattle.promises.proofs.RowsAfter.{counted_next}
use Rattle.promises.proofs.Instances.{instances_next}
use Rattle.promises.proofs.Sums.{each_ticks_next}
use Rattle.promises.proofs.Sizes.{sized_next, singles_next}
use Rattle.promises.proofs.Lines.{LevelKept, EventOutcome}

-- the events of lines that were read are as lines give them
pub all_met : (h : List (List ℕ)) → AllMet (events_of h)
unfolding events_of event_of_line
all_met [] = tt
all_met (l ∷ h) = by_reading (read_line l) refl (all_met h)
  where
    by_reading : (r : Reading) → read_line l ≡ r → AllMet (events_of h) → AllMet (with_event (event_in r l) (events_of h))
    by_reading Version q m = m
    by_reading Comment q m = m
    by_reading (TimeScale s) q m = m
    by_reading Creator q m = m
    by_reading CreationDate q m = m
    by_reading (EventLine e count) q m = (line_meets l e count q, m)
    by_reading (Refused n) q m = m

-- ---- a line taken

module _ (h : List Event) (a : Accepted h) (met : AllMet h) (t : Tables) (s : Shown h t) (event : Event) where
  abbrev state : ℕ
  state = enters t.nums (looked_up_in h t event) event

  -- the tables after it
  abbrev next : Tables
  next = taken_tables t (looked_up_in h t event) state event

  taken_shown : answer h event ≡ 0 → Met event → Shown (event ∷ h) next
  taken_shown q m =
      let f = passed h event q in
      let l = enters_shown h a met t s event f.kinds m f.chart in
      record {
        sized = sized_next h t s event state;
        singles = singles_next h t s event state f (counted_next h a met t s event f m state l);
        each_name = each_name_next h a met t s event f m state l;
        instance_rows_shown = instances_next h a met t s event f m state l;
        each_ticks = each_ticks_next h a t s event f m state;
        indexed = indexed_next h met t s event f m state;
      }

  level : LevelKept t.nums next.nums
  level = record {
    number = verdict_number_kept t.nums s.sized.nums_sized (looked_up_in h t event) state event;
    line = verdict_line_kept t.nums s.sized.nums_sized (looked_up_in h t event) state event;
    scale = scale_kept t.nums s.sized.nums_sized (looked_up_in h t event) state event;
    creator = creator_kept t.nums s.sized.nums_sized (looked_up_in h t event) state event;
    date = date_kept t.nums s.sized.nums_sized (looked_up_in h t event) state event;
  }

  -- ---- the decision

  -- from the rows that were looked up
  planned : (v : LookedUp) → Plan
  planned v = if_zero (answer h event) (Ok (v, enters t.nums v event)) (Err (answer h event))

  plan_shown : Met event → plan_of t.names t.nums t.ticks event ≡ planned (looked_up t.names t.nums event)
  unfolding plan_of plan_by planned
  plan_shown m = rw (answers_agree h a met t s event m)

  outcome : Met event → EventOutcome h t event (carried (plan_of t.names t.nums t.ticks event) t event)
  unfolding planned
  outcome m = rw (plan_shown m) (by_answer (answer h event) refl)
    where
      by_answer : (n : ℕ) → answer h event ≡ n →
          let v = looked_up t.names t.nums event in
          EventOutcome h t event (carried (if_zero n (Ok (v, enters t.nums v event)) (Err n)) t event)
      by_answer zero q =
          rw (looked_up_shown h a met t s event)
          (record {
            answered = sym q;
            shown = λ z. taken_shown q m;
            line_counted = λ z. lines_taken t.nums s.sized.nums_sized (looked_up_in h t event) state event;
            level_kept = λ z. level;
            remembers = λ z. absurd (z q);
          })
      by_answer (suc n) q = record {
        answered = sym q;
        shown = λ z. absurd (omega (arith, q, z));
        line_counted = λ z. absurd (omega (arith, q, z));
        level_kept = λ z. absurd (omega (arith, q, z));
        remembers = λ z. rw q;
      }

-- ---- in a history of lines

pub event_outcome : (h : List (List ℕ)) → Kept h → (t : Tables) → Shows h t → (l : List ℕ) (e : ReadEvent) (count : ℕ) → read_line l ≡ EventLine e count →
    EventOutcome (events_of h) t (event_from e (field_of l 2) (field_of l 5) count) (judged_event t l e count)
unfolding judged_event
event_outcome h k t s l e count q =
    outcome (events_of h) k.accepted (all_met h) t s.events (event_from e (field_of l 2) (field_of l 5) count) (line_meets l e count q)
