-- For the code alone: the classes into which it sorts the 38 events, so that each rule of a line and what an event does to a core is a test of one
-- number. The rules themselves are stated by lists of events, and computed tests show that both say the same.
use Rattle.std.specs.Prelude.{ℕ, Bool, ◌&&◌, ◌||◌, List, [], ◌∷◌, eqb, leb, get_or}
use Rattle.words.specs.declared.kind.Kind.{Kind}
use Rattle.words.specs.declared.kind.Kind.TheVariants.{Stimulus, Task, Interrupt, Runnable, Scheduler, OsEvent, Signal, Semaphore}
use Rattle.words.specs.declared.action.Action.{Action}
use Rattle.words.specs.Action.{action_code}

-- ---- the classes, in such an order that those of T, of R and of the core events stand one after the other

-- of a number that is no event's
abbrev pub no_class : ℕ
no_class = 0

-- trigger
abbrev pub stimulation : ℕ
stimulation = 1

-- mtalimitexceeded, of T alone
abbrev pub limit_exceeded : ℕ
limit_exceeded = 2

-- activate, of T and I
abbrev pub activation : ℕ
activation = 3

-- release and release_parking, of T and I: they need no core
abbrev pub readying : ℕ
readying = 4

-- poll and run, of T and I: they keep the core
abbrev pub polling : ℕ
polling = 5

-- preempt, wait and park, of T and I: they give the core back
abbrev pub leaving : ℕ
leaving = 6

-- poll_parking, of T and I: it takes a core
abbrev pub unparking : ℕ
unparking = 7

-- terminate, of T and I, where it gives the core back, and of R
abbrev pub ending : ℕ
ending = 8

-- start and resume, of T and I, where they take a core, and of R
abbrev pub beginning : ℕ
beginning = 9

-- suspend, of R alone
abbrev pub suspension : ℕ
suspension = 10

-- interrupt_suspended, of I alone
abbrev pub interrupt_suspension : ℕ
interrupt_suspension = 11

-- schedule
abbrev pub scheduling : ℕ
scheduling = 12

-- schedulepoint
abbrev pub schedule_point : ℕ
schedule_point = 13

-- clear_event and wait_event
abbrev pub event_use : ℕ
event_use = 14

-- set_event
abbrev pub event_setting : ℕ
event_setting = 15

-- read and write
abbrev pub signal_use : ℕ
signal_use = 16

-- the events of SEM that a process causes
abbrev pub semaphore_request : ℕ
semaphore_request = 17

-- and those that are states of its own
abbrev pub semaphore_state : ℕ
semaphore_state = 18

-- ---- the class of each event, in the order of the codes

abbrev pub classes : List ℕ
classes =
    stimulation
    ∷ activation
    ∷ interrupt_suspension
    ∷ limit_exceeded
    ∷ leaving
    ∷ polling
    ∷ unparking
    ∷ leaving
    ∷ readying
    ∷ readying
    ∷ beginning
    ∷ polling
    ∷ beginning
    ∷ ending
    ∷ leaving
    ∷ suspension
    ∷ scheduling
    ∷ schedule_point
    ∷ event_use
    ∷ event_setting
    ∷ event_use
    ∷ signal_use
    ∷ signal_use
    ∷ semaphore_request
    ∷ semaphore_request
    ∷ semaphore_state
    ∷ semaphore_state
    ∷ semaphore_request
    ∷ semaphore_state
    ∷ semaphore_state
    ∷ semaphore_state
    ∷ semaphore_request
    ∷ semaphore_request
    ∷ semaphore_request
    ∷ semaphore_state
    ∷ semaphore_state
    ∷ semaphore_state
    ∷ semaphore_request
    ∷ []

unfoldable pub class_at : ℕ → ℕ
class_at n = get_or classes n no_class

unfoldable pub class_of : Action → ℕ
class_of a = class_at (action_code a)

-- whether the events of a class are events of a type
unfoldable pub class_is_of : Kind → ℕ → Bool
class_is_of Stimulus c = eqb c stimulation
class_is_of Task c = leb limit_exceeded c && leb c beginning
class_is_of Interrupt c = eqb c interrupt_suspension || (leb activation c && leb c beginning)
class_is_of Runnable c = leb ending c && leb c suspension
class_is_of Scheduler c = eqb c scheduling || eqb c schedule_point
class_is_of OsEvent c = eqb c event_use || eqb c event_setting
class_is_of Signal c = eqb c signal_use
class_is_of Semaphore c = eqb c semaphore_request || eqb c semaphore_state
