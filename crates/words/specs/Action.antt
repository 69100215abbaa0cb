-- The 38 event words of 000's sections 2.3.1 to 2.3.7, the events of each type, and the event that bytes name.
use Rattle.std.specs.Prelude.{ℕ, Bool, List, [], ◌∷◌, ◌++◌, eqb, None, Some, Option}
use Rattle.text.specs.Literal.{bytes}
use Rattle.text.specs.Lists.{any}
use Rattle.words.specs.declared.kind.Kind.{Kind}
use Rattle.words.specs.declared.kind.Kind.TheVariants.{Stimulus, Task, Interrupt, Runnable, Scheduler, OsEvent, Signal, Semaphore}
use Rattle.words.specs.declared.action.Action.{Action}
use Rattle.words.specs.declared.action.Action.TheVariants.{
  Trigger,
  Activate,
  InterruptSuspended,
  Mtalimitexceeded,
  Park,
  Poll,
  PollParking,
  Preempt,
  Release,
  ReleaseParking,
  Resume,
  Run,
  Start,
  Terminate,
  Wait,
  Suspend,
  Schedule,
  Schedulepoint,
  ClearEvent,
  SetEvent,
  WaitEvent,
  Read,
  Write,
  Assigned,
  Decrement,
  Free,
  Full,
  Increment,
  Lock,
  LockUsed,
  Overfull,
  Queued,
  Released,
  Requestsemaphore,
  Unlock,
  UnlockFull,
  Used,
  Waiting,
}
use Rattle.words.specs.Named.{first_named}
use Rattle.words.specs.Code.{
  trigger,
  activate,
  interrupt_suspended,
  mtalimitexceeded,
  park,
  poll,
  poll_parking,
  preempt,
  release,
  release_parking,
  resume,
  run,
  start,
  terminate,
  wait,
  suspend,
  schedule,
  schedulepoint,
  clear_event,
  set_event,
  wait_event,
  read,
  write,
  assigned,
  decrement,
  free,
  full,
  increment,
  lock,
  lock_used,
  overfull,
  queued,
  released,
  requestsemaphore,
  unlock,
  unlock_full,
  used,
  waiting,
}

-- the word of each event
unfoldable pub word_of : Action → List ℕ
word_of Trigger = bytes "trigger"
word_of Activate = bytes "activate"
word_of InterruptSuspended = bytes "interrupt_suspended"
word_of Mtalimitexceeded = bytes "mtalimitexceeded"
word_of Park = bytes "park"
word_of Poll = bytes "poll"
word_of PollParking = bytes "poll_parking"
word_of Preempt = bytes "preempt"
word_of Release = bytes "release"
word_of ReleaseParking = bytes "release_parking"
word_of Resume = bytes "resume"
word_of Run = bytes "run"
word_of Start = bytes "start"
word_of Terminate = bytes "terminate"
word_of Wait = bytes "wait"
word_of Suspend = bytes "suspend"
word_of Schedule = bytes "schedule"
word_of Schedulepoint = bytes "schedulepoint"
word_of ClearEvent = bytes "clear_event"
word_of SetEvent = bytes "set_event"
word_of WaitEvent = bytes "wait_event"
word_of Read = bytes "read"
word_of Write = bytes "write"
word_of Assigned = bytes "assigned"
word_of Decrement = bytes "decrement"
word_of Free = bytes "free"
word_of Full = bytes "full"
word_of Increment = bytes "increment"
word_of Lock = bytes "lock"
word_of LockUsed = bytes "lock_used"
word_of Overfull = bytes "overfull"
word_of Queued = bytes "queued"
word_of Released = bytes "released"
word_of Requestsemaphore = bytes "requestsemaphore"
word_of Unlock = bytes "unlock"
word_of UnlockFull = bytes "unlock_full"
word_of Used = bytes "used"
word_of Waiting = bytes "waiting"

-- the number of each event, in the order of 000's sections
unfoldable pub action_code : Action → ℕ
action_code Trigger = trigger
action_code Activate = activate
action_code InterruptSuspended = interrupt_suspended
action_code Mtalimitexceeded = mtalimitexceeded
action_code Park = park
action_code Poll = poll
action_code PollParking = poll_parking
action_code Preempt = preempt
action_code Release = release
action_code ReleaseParking = release_parking
action_code Resume = resume
action_code Run = run
action_code Start = start
action_code Terminate = terminate
action_code Wait = wait
action_code Suspend = suspend
action_code Schedule = schedule
action_code Schedulepoint = schedulepoint
action_code ClearEvent = clear_event
action_code SetEvent = set_event
action_code WaitEvent = wait_event
action_code Read = read
action_code Write = write
action_code Assigned = assigned
action_code Decrement = decrement
action_code Free = free
action_code Full = full
action_code Increment = increment
action_code Lock = lock
action_code LockUsed = lock_used
action_code Overfull = overfull
action_code Queued = queued
action_code Released = released
action_code Requestsemaphore = requestsemaphore
action_code Unlock = unlock
action_code UnlockFull = unlock_full
action_code Used = used
action_code Waiting = waiting

-- ---- the events of each type

abbrev pub process_actions : List Action
process_actions = Activate ∷ Park ∷ Poll ∷ PollParking ∷ Preempt ∷ Release ∷ ReleaseParking ∷ Resume ∷ Run ∷ Start ∷ Terminate ∷ Wait ∷ []

abbrev pub runnable_actions : List Action
runnable_actions = Resume ∷ Start ∷ Suspend ∷ Terminate ∷ []

abbrev pub scheduler_actions : List Action
scheduler_actions = Schedule ∷ Schedulepoint ∷ []

abbrev pub os_event_actions : List Action
os_event_actions = ClearEvent ∷ SetEvent ∷ WaitEvent ∷ []

abbrev pub signal_actions : List Action
signal_actions = Read ∷ Write ∷ []

-- those that a process causes, and a semaphore's own state events
abbrev pub semaphore_requests : List Action
semaphore_requests = Assigned ∷ Decrement ∷ Increment ∷ Queued ∷ Released ∷ Requestsemaphore ∷ Waiting ∷ []

abbrev pub semaphore_states : List Action
semaphore_states = Free ∷ Full ∷ Lock ∷ LockUsed ∷ Overfull ∷ Unlock ∷ UnlockFull ∷ Used ∷ []

-- "mtalimitexceeded is an event of T only, interrupt_suspended of I only"
unfoldable pub actions_of : Kind → List Action
actions_of Stimulus = Trigger ∷ []
actions_of Task = Mtalimitexceeded ∷ process_actions
actions_of Interrupt = InterruptSuspended ∷ process_actions
actions_of Runnable = runnable_actions
actions_of Scheduler = scheduler_actions
actions_of OsEvent = os_event_actions
actions_of Signal = signal_actions
actions_of Semaphore = semaphore_states ++ semaphore_requests

abbrev pub action_from : List Action → Option Action → List ℕ → Option Action
action_from = first_named word_of Some

-- the event of a type that bytes name
unfoldable pub action_of : Kind → List ℕ → Option Action
action_of k = action_from (actions_of k) None

-- whether an event is among some, and whether it is one of a type
unfoldable pub among : Action → List Action → Bool
among a = any (λ b. eqb (action_code a) (action_code b))

unfoldable pub is_of : Kind → Action → Bool
is_of k a = among a (actions_of k)
