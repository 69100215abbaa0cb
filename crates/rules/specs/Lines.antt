-- Where a line that was read becomes an event of these rules: the number that stands for its type; that of its event word is the word's code.
use Rattle.std.specs.Prelude.{List, [], ◌∷◌, ℕ, Option, None, Some}
use Rattle.words.specs.declared.kind.Kind.{Kind}
use Rattle.words.specs.declared.kind.Kind.TheVariants.{Stimulus, Task, Interrupt, Runnable, Scheduler, OsEvent, Signal, Semaphore}
use Rattle.words.specs.Action.{action_code}
use Rattle.line.specs.declared.event.Event.{Event as ReadEvent}
use Rattle.line.specs.declared.reading.Reading.{Reading}
use Rattle.line.specs.declared.reading.Reading.TheVariants.{Version, Comment, TimeScale, Creator, CreationDate, EventLine, Refused}
use Rattle.fields.specs.Part.{field_of}
use Rattle.line.specs.Reading.{read_line}
use Rattle.rules.specs.Words.{task, interrupt, runnable, semaphore}
use Rattle.rules.specs.Words.{requestsemaphore, queued, assigned, waiting, released, increment, decrement}
use Rattle.rules.specs.Event.{Event}

-- "Judged entities: tasks (T), interrupt routines (I), runnables (R), semaphores (SEM)"; "STI, SCHED, EVENT and SIG lines .. only move the time"
unfoldable pub kind_number : Kind → ℕ
kind_number Stimulus = 0
kind_number Task = task
kind_number Interrupt = interrupt
kind_number Runnable = runnable
kind_number Scheduler = 0
kind_number OsEvent = 0
kind_number Signal = 0
kind_number Semaphore = semaphore

-- the event of a line, from what was read, its source and target, and the count that its note means
abbrev pub event_from : ReadEvent → List ℕ → List ℕ → ℕ → Event
event_from e source target count = record {
  time = e.time;
  source = source;
  source_instance = e.source_instance;
  kind = kind_number e.kind;
  target = target;
  target_instance = e.target_instance;
  word = action_code e.action;
  count = count;
}

-- ---- the events of lines. "time, source, source instance, type, target, ..": source and target are the fields 2 and 5

abbrev pub event_in : Reading → List ℕ → Option Event
event_in Version l = None
event_in Comment l = None
event_in (TimeScale s) l = None
event_in Creator l = None
event_in CreationDate l = None
event_in (EventLine e count) l = Some (event_from e (field_of l 2) (field_of l 5) count)
event_in (Refused n) l = None

unfoldable pub event_of_line : List ℕ → Option Event
event_of_line l = event_in (read_line l) l

-- the events of the lines that read as events, in the order of the lines
abbrev pub with_event : Option Event → List Event → List Event
with_event None es = es
with_event (Some e) es = e ∷ es

unfoldable pub events_of : List (List ℕ) → List Event
events_of [] = []
events_of (l ∷ ls) = with_event (event_of_line l) (events_of ls)

-- the event words of SEM that are no step of its chart
abbrev pub requests : List ℕ
requests = requestsemaphore ∷ queued ∷ assigned ∷ waiting ∷ released ∷ increment ∷ decrement ∷ []
