-- Where lines and rules meet: a line that reads as an event becomes an event whose word is one of its type for these rules, and whose numbers are
-- within their sizes. So the rules see no word that its chart lacks, but for the requests of a semaphore.
use Rattle.std.proofs.Common.{None, Some, Option}
use mathlib.Core.Path.{◌≡◌, refl, subst}
use mathlib.Core.Bool.{Bool, true, false, not, ◌&&◌, ◌||◌, cond, and-false}
use mathlib.Core.List.{List, [], ◌∷◌}
use Prim.Native.Nat.{ℕ, zero, suc, ◌≤◌}
use native.Mathlib.Omega.{arith}
use lib.Dec.{eqb}
use lib.ListN.{length}
use borrow.Author.Tests.{le-ltb}
use Rattle.text.specs.Name.{is_name}
use Rattle.text.specs.Number.{number_of}
use Rattle.text.specs.Sizes.{max_time, name_limit, core_limit}
use Rattle.text.specs.Lists.{any, all}
use Rattle.text.proofs.Digits.{read_written}
use Rattle.words.specs.declared.kind.Kind.{Kind}
use Rattle.words.specs.declared.kind.Kind.TheVariants.{Stimulus, Task, Interrupt, Runnable, Scheduler, OsEvent, Signal, Semaphore}
use Rattle.words.specs.declared.action.Action.{Action}
use Rattle.words.specs.Action.{action_code, actions_of, among, is_of}
use Rattle.words.proofs.Actions.{actions, every}
use Rattle.fields.specs.Part.{field_of}
use Rattle.forms.specs.Note.{max_instance, as_count, count_note, is_signal, signal_note, note_of}
use Rattle.line.specs.declared.event.Event.{Event as ReadEvent}
use Rattle.line.specs.declared.reading.Reading.{Reading}
use Rattle.line.specs.declared.reading.Reading.TheVariants.{Version, Comment, TimeScale, Creator, CreationDate, EventLine, Refused}
use Rattle.line.specs.Reading.{read_line}
use Rattle.line.proofs.Said.{said}
use Rattle.rules.specs.Lists.{member, if_zero}
use Rattle.rules.specs.Chart.{step_for}
use Rattle.rules.specs.Charts.{is_process, process_chart, runnable_chart, semaphore_chart, chart_of}
use Rattle.rules.specs.Words.{semaphore}
use Rattle.rules.specs.Event.{Event, Instance, same_instance, state_of}
use Rattle.rules.specs.Core.{on_core}
use Rattle.rules.specs.History.{has_instances, is_tracked, named, names, kind_in, cores, instances, activates, last_time}
use Rattle.rules.specs.Refusals.{less, time_falls, source_clash, target_clash, second_kind, needs_one, no_room, off_chart, never_activated, not_allowed, not_next, core_broken, count_broken, event_tests, answer_to, unseen}
use Rattle.rules.specs.First.{taken_of}
use Rattle.rules.specs.Verdict.{answer, Accepted, taken}
use Rattle.rules.specs.Lines.{kind_number, event_from, event_in, event_of_line, with_event, events_of, requests}
use Rattle.rules.proofs.Tests.{both}
use Rattle.rules.proofs.CoreWords.{is_step}
use Rattle.rules.proofs.Room.{all_fit}
use Rattle.rules.proofs.Seen.{OneWorded, Worded, first_seen}

-- ---- the words: one computed test for each type

-- where the first test passes, so does the second
abbrev implies : Bool → Bool → Bool
implies a b = not a || b

implied : (a b : Bool) → implies a b ≡ true → a ≡ true → b ≡ true
implied true b t e = t
implied false b t e = cc

-- a type's number and a word's: what is asked of T, I and R, and what of SEM
abbrev stepped : ℕ → ℕ → Bool
stepped k a = implies (has_instances k) (is_step (step_for (chart_of k) a))

abbrev requested : ℕ → ℕ → Bool
requested k a = implies (eqb k semaphore) (is_step (step_for (chart_of k) a) || member a requests)

abbrev right : Kind → Action → Bool
right k a = implies (is_of k a) (stepped (kind_number k) (action_code a) && requested (kind_number k) (action_code a))

tested : (k : Kind) → all (right k) actions ≡ true
unfolding actions is_of among actions_of action_code kind_number has_instances is_process is_step chart_of process_chart runnable_chart semaphore_chart
tested Stimulus = refl
tested Task = refl
tested Interrupt = refl
tested Runnable = refl
tested Scheduler = refl
tested OsEvent = refl
tested Signal = refl
tested Semaphore = refl

-- ---- the count: at most "4,294,967,295", and 0 but for SEM

abbrev Counted : Kind → Option ℕ → Type 0
Counted k (Some n) = (n ≤ max_instance) × (eqb (kind_number k) semaphore ≡ false → n ≡ 0)
Counted k None = Unit {0}

counted : (k : Kind) (s : List ℕ) → Counted k (note_of k s)
unfolding note_of count_note signal_note kind_number
counted k [] = (omega arith, λ o. refl)
counted Stimulus (x ∷ s) = (omega arith, λ o. refl)
counted Task (x ∷ s) = (omega arith, λ o. refl)
counted Interrupt (x ∷ s) = (omega arith, λ o. refl)
counted Runnable (x ∷ s) = (omega arith, λ o. refl)
counted Scheduler (x ∷ s) = (omega arith, λ o. refl)
counted OsEvent (x ∷ s) = (omega arith, λ o. refl)
counted Signal (x ∷ s) = by_form (is_signal (x ∷ s))
  where
    by_form : (b : Bool) → Counted Signal (cond b (Some 0) None)
    by_form true = (omega arith, λ o. refl)
    by_form false = tt
counted Semaphore (x ∷ s) = by_number (number_of (x ∷ s) max_instance) refl
  where
    by_number : (n : Option ℕ) → number_of (x ∷ s) max_instance ≡ n → Counted Semaphore (as_count n)
    by_number (Some v) q = ((read_written (x ∷ s) max_instance v q).1, λ o. cc)
    by_number None q = tt

-- ---- a line

pub record Met (e : Event) : Type 0 where
  -- on T, I and R the word is a step of the chart
  pub worded : OneWorded e
  -- on SEM a step of the chart, or one of the seven requests
  pub semaphore_word : eqb e.kind semaphore ≡ true → is_step (step_for (chart_of e.kind) e.word) || member e.word requests ≡ true
  -- "name, note | 1 to 64 bytes"
  pub source_name : is_name e.source ≡ true
  pub target_name : is_name e.target ≡ true
  -- "time | 72,057,594,037,927,935 (2^56 − 1)"; "instance, semaphore count | 4,294,967,295"
  pub time_size : e.time ≤ max_time
  pub from_size : e.source_instance ≤ max_instance
  pub to_size : e.target_instance ≤ max_instance
  pub count_size : e.count ≤ max_instance
  -- and 0 where there is no semaphore
  pub no_count : eqb e.kind semaphore ≡ false → e.count ≡ 0

pub line_meets : (l : List ℕ) (e : ReadEvent) (count : ℕ) → read_line l ≡ EventLine e count → Met (event_from e (field_of l 2) (field_of l 5) count)
line_meets l e count q =
    let a = (said l e count q).allowed in
    let w = both (stepped (kind_number e.kind) (action_code e.action)) _ (implied (is_of e.kind e.action) _ (every (right e.kind) (tested e.kind) e.action) a.of_kind) in
    let c = subst (Counted e.kind) a.means (counted e.kind (field_of l 8)) in
    record {
      worded = implied (has_instances (kind_number e.kind)) _ w.0;
      semaphore_word = implied (eqb (kind_number e.kind) semaphore) _ w.1;
      source_name = a.source_name;
      target_name = a.target_name;
      time_size = a.time_size;
      from_size = a.from_size;
      to_size = a.to_size;
      count_size = c.0;
      no_count = c.1;
    }

-- ---- the other types

-- "Judged entities: tasks (T), interrupt routines (I), runnables (R), semaphores (SEM)"
abbrev pub judged : Kind → Bool
judged Stimulus = false
judged Task = true
judged Interrupt = true
judged Runnable = true
judged Scheduler = false
judged OsEvent = false
judged Signal = false
judged Semaphore = true

pub unjudged_zero : (k : Kind) → judged k ≡ false → kind_number k ≡ 0
unfolding kind_number
unjudged_zero Stimulus q = refl
unjudged_zero Task q = cc
unjudged_zero Interrupt q = cc
unjudged_zero Runnable q = cc
unjudged_zero Scheduler q = refl
unjudged_zero OsEvent q = refl
unjudged_zero Signal q = refl
unjudged_zero Semaphore q = cc

-- "STI, SCHED, EVENT and SIG lines are read and their fields checked, but only move the time"
pub only_time : (h : List Event) → Accepted h → (e : ReadEvent) (source target : List ℕ) (count : ℕ) → judged e.kind ≡ false →
    answer h (event_from e source target count) ≡ cond (less e.time (last_time h)) 8 0
unfolding answer_to event_tests time_falls second_kind source_clash target_clash needs_one no_room off_chart never_activated not_allowed not_next core_broken count_broken names named kind_in instances on_core has_instances is_tracked is_process activates chart_of
only_time h a e source target count j =
    let f = all_fit h a in
    rw (unjudged_zero e.kind j, le-ltb name_limit (length (names h)) f.names_fit, le-ltb core_limit (length (cores h)) f.cores_fit, and-false, and-false)

-- ---- any lines

-- the events of the lines that read as events, in any order of the lines
pub read_worded : (ls : List (List ℕ)) → Worded (events_of ls)
unfolding events_of event_of_line
read_worded [] = tt
read_worded (l ∷ ls) = by_reading (read_line l) refl (read_worded ls)
  where
    by_reading : (r : Reading) → read_line l ≡ r → Worded (events_of ls) → Worded (with_event (event_in r l) (events_of ls))
    by_reading Version q w = w
    by_reading Comment q w = w
    by_reading (TimeScale s) q w = w
    by_reading Creator q w = w
    by_reading CreationDate q w = w
    by_reading (EventLine e count) q w = ((line_meets l e count q).worded, w)
    by_reading (Refused n) q w = w

taken_worded : (es h : List Event) → Worded h → Worded es → Worded (taken h es)
unfolding taken_of
taken_worded [] h w v = w
taken_worded (e ∷ es) h w v = by_answer (answer h e) (taken_worded es (e ∷ h) (v.0, w) v.1)
  where
    by_answer : (n : ℕ) → Worded (taken (e ∷ h) es) → Worded (if_zero n (taken (e ∷ h) es) h)
    by_answer zero r = r
    by_answer (suc n) r = w

-- An instance has no state exactly if it is seen for the first time, after the events taken of any lines.
pub lines_first_seen : (ls : List (List ℕ)) (x : Instance) → has_instances x.kind ≡ true →
    unseen (state_of x (taken [] (events_of ls))) ≡ not (any (same_instance x) (instances (taken [] (events_of ls))))
lines_first_seen ls = first_seen (taken [] (events_of ls)) (taken_worded (events_of ls) [] tt (read_worded ls))
