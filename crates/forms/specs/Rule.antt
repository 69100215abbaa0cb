-- The rules on sources, instances and the presence of a note: document 01's "Source rules" and "Notes".
use Rattle.std.specs.Prelude.{ℕ, Bool, true, false, not, ◌&&◌, ◌||◌, cond, List, [], ◌∷◌, eqb, length}
use Rattle.text.specs.Bytes.{same_bytes}
use Rattle.words.specs.declared.kind.Kind.{Kind}
use Rattle.words.specs.declared.kind.Kind.TheVariants.{Stimulus, Task, Interrupt, Runnable, Scheduler, OsEvent, Signal, Semaphore}
use Rattle.words.specs.declared.action.Action.{Action}
use Rattle.words.specs.declared.action.Action.TheVariants.{InterruptSuspended, Park, Poll, PollParking, Preempt, Release, ReleaseParking, Resume, Run, Start, Terminate, Wait, Schedule, SetEvent}
use Rattle.words.specs.Action.{among, semaphore_states}

unfoldable pub is_process : Kind → Bool
is_process Stimulus = false
is_process Task = true
is_process Interrupt = true
is_process Runnable = false
is_process Scheduler = false
is_process OsEvent = false
is_process Signal = false
is_process Semaphore = false

-- "core events (start, resume, poll_parking, preempt, wait, park, terminate, poll, run, release, release_parking on T or I)"
abbrev pub core_actions : List Action
core_actions = Start ∷ Resume ∷ PollParking ∷ Preempt ∷ Wait ∷ Park ∷ Terminate ∷ Poll ∷ Run ∷ Release ∷ ReleaseParking ∷ []

-- "source instance 0 for core events .., for interrupt_suspended and for schedule"
unfoldable pub zero_source : Kind → Action → Bool
zero_source k a = (is_process k && among a core_actions) || among a (InterruptSuspended ∷ Schedule ∷ [])

-- "Target instance 0 for SEM, SCHED, EVENT, SIG"
unfoldable pub zero_target : Kind → Bool
zero_target Stimulus = false
zero_target Task = false
zero_target Interrupt = false
zero_target Runnable = false
zero_target Scheduler = true
zero_target OsEvent = true
zero_target Signal = true
zero_target Semaphore = true

-- "schedule and .. a semaphore's own state events"
unfoldable pub is_own : Action → Bool
is_own a = among a (Schedule ∷ semaphore_states)

unfoldable pub source_broken : Kind → Action → ℕ → Bool
source_broken k a from = zero_source k a && not (eqb from 0)

unfoldable pub target_broken : Kind → ℕ → Bool
target_broken k to = zero_target k && not (eqb to 0)

-- "Source equals target, both instances 0"
unfoldable pub own_broken : Action → List ℕ → ℕ → List ℕ → ℕ → Bool
own_broken a source from target to = is_own a && not (same_bytes source target && (eqb from 0 && eqb to 0))

-- whether a note may or must stand at a type's events
pub data Presence : Type 0 where
  required : Presence
  optional : Presence
  barred : Presence

-- "required for SEM .. and set_event ..; optional for SIG ..; absent elsewhere"
abbrev pub presence_at : Kind → Presence
presence_at Stimulus = barred
presence_at Task = barred
presence_at Interrupt = barred
presence_at Runnable = barred
presence_at Scheduler = barred
presence_at OsEvent = barred
presence_at Signal = optional
presence_at Semaphore = required

unfoldable pub presence : Kind → Action → Presence
presence k a = cond (among a (SetEvent ∷ [])) required (presence_at k)

abbrev pub presence_broken : Presence → ℕ → Bool
presence_broken required n = eqb n 0
presence_broken optional n = false
presence_broken barred n = not (eqb n 0)

-- a note of n bytes, 0 where there is none, is absent where required or present where barred
unfoldable pub note_broken : Kind → Action → ℕ → Bool
note_broken k a n = presence_broken (presence k a) n

-- "source, instance or note presence rule broken"
unfoldable pub rule_broken : Kind → Action → List ℕ → ℕ → List ℕ → ℕ → List ℕ → Bool
rule_broken k a source from target to note =
    source_broken k a from || (target_broken k to || (own_broken a source from target to || note_broken k a (length note)))
