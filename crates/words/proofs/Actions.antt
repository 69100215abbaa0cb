-- What holds of every event: one test computed over the list of all 38, and a law that turns it into the rule at each.
use mathlib.Core.Path.{◌≡◌, refl, sym, ap, ◌∙◌}
use mathlib.Core.Bool.{Bool, true}
use mathlib.Core.List.{List, [], ◌∷◌}
use Prim.Native.Nat.{ℕ, zero, suc, ◌<◌}
use lib.Dec.{ltb}
use lib.ListN.{get_or}
use borrow.Author.Tests.{ltb-true}
use Rattle.text.specs.Lists.{all}
use Rattle.text.proofs.Bools.{and_l, and_r}
use Rattle.words.specs.declared.action.Action.{Action}
use Rattle.words.specs.declared.action.Action.TheVariants.{
  Trigger,
  Activate,
  InterruptSuspended,
  Mtalimitexceeded,
  Park,
  Poll,
  PollParking,
  Preempt,
  Release,
  ReleaseParking,
  Resume,
  Run,
  Start,
  Terminate,
  Wait,
  Suspend,
  Schedule,
  Schedulepoint,
  ClearEvent,
  SetEvent,
  WaitEvent,
  Read,
  Write,
  Assigned,
  Decrement,
  Free,
  Full,
  Increment,
  Lock,
  LockUsed,
  Overfull,
  Queued,
  Released,
  Requestsemaphore,
  Unlock,
  UnlockFull,
  Used,
  Waiting,
}
use Rattle.words.specs.Action.{action_code}

-- all 38 events, in the order of their codes
unfoldable pub actions : List Action
actions =
    Trigger
    ∷ Activate
    ∷ InterruptSuspended
    ∷ Mtalimitexceeded
    ∷ Park
    ∷ Poll
    ∷ PollParking
    ∷ Preempt
    ∷ Release
    ∷ ReleaseParking
    ∷ Resume
    ∷ Run
    ∷ Start
    ∷ Terminate
    ∷ Wait
    ∷ Suspend
    ∷ Schedule
    ∷ Schedulepoint
    ∷ ClearEvent
    ∷ SetEvent
    ∷ WaitEvent
    ∷ Read
    ∷ Write
    ∷ Assigned
    ∷ Decrement
    ∷ Free
    ∷ Full
    ∷ Increment
    ∷ Lock
    ∷ LockUsed
    ∷ Overfull
    ∷ Queued
    ∷ Released
    ∷ Requestsemaphore
    ∷ Unlock
    ∷ UnlockFull
    ∷ Used
    ∷ Waiting
    ∷ []

-- an event stands in the list at its code
place : (a : Action) → get_or actions (action_code a) Trigger ≡ a
unfolding actions action_code
place Trigger = refl
place Activate = refl
place InterruptSuspended = refl
place Mtalimitexceeded = refl
place Park = refl
place Poll = refl
place PollParking = refl
place Preempt = refl
place Release = refl
place ReleaseParking = refl
place Resume = refl
place Run = refl
place Start = refl
place Terminate = refl
place Wait = refl
place Suspend = refl
place Schedule = refl
place Schedulepoint = refl
place ClearEvent = refl
place SetEvent = refl
place WaitEvent = refl
place Read = refl
place Write = refl
place Assigned = refl
place Decrement = refl
place Free = refl
place Full = refl
place Increment = refl
place Lock = refl
place LockUsed = refl
place Overfull = refl
place Queued = refl
place Released = refl
place Requestsemaphore = refl
place Unlock = refl
place UnlockFull = refl
place Used = refl
place Waiting = refl

at : (f : Action → Bool) (l : List Action) → all f l ≡ true → f Trigger ≡ true → (i : ℕ) → f (get_or l i Trigger) ≡ true
at f [] e d i = d
at f (a ∷ l) e d zero = and_l (f a) (all f l) e
at f (a ∷ l) e d (suc i) = at f l (and_r (f a) (all f l) e) d i

pub every : (f : Action → Bool) → all f actions ≡ true → (a : Action) → f a ≡ true
unfolding actions
every f e a = rw place at (at f actions e (and_l (f Trigger) _ e) (action_code a))

pub code_bound : (a : Action) → action_code a < 38
unfolding actions action_code
code_bound a = ltb-true (action_code a) 38 (every (λ b. ltb (action_code b) 38) refl a)

-- two events of one code are one event
pub one_code : (a b : Action) → action_code a ≡ action_code b → a ≡ b
one_code a b e = sym (place a) ∙ ap (λ (n : ℕ). get_or actions n Trigger) e ∙ place b
