-- The tests on kinds, against each other and by the numbers of the kinds: which have instances and which are tracked, of which an event on a core is, and
-- what a semaphore is not.
use mathlib.Core.Path.{◌≡◌}
use mathlib.Core.Bool.{true, false, or-true}
use Prim.Native.Nat.{ℕ, ◌≤◌}
use native.Mathlib.Omega.{arith}
use lib.Dec.{eqb}
use borrow.Author.Tests.{eqb-true, ne_eqb}
use Rattle.rules.specs.Words.{task, interrupt, runnable, semaphore}
use Rattle.rules.specs.Charts.{is_process}
use Rattle.rules.specs.Event.{Event}
use Rattle.rules.specs.Core.{on_core}
use Rattle.rules.specs.History.{has_instances, is_tracked, activates}
use Rattle.rules.proofs.Tracked.{process_tracked}
use Rattle.rules.proofs.CoreWords.{on_process}
use Rattle.promises.proofs.Choices.{either_true}

-- ---- what has instances, and what is tracked

-- T, I and R have instances, and SEM is tracked too
pub instances_range : (k : ℕ) → has_instances k ≡ true → (task ≤ k) × (k ≤ runnable)
unfolding has_instances is_process
instances_range k =
    either_true (is_process k) (eqb k runnable) P
    (either_true (eqb k task) (eqb k interrupt) P (is task (omega arith, omega arith)) (is interrupt (omega arith, omega arith)))
    (is runnable (omega arith, omega arith))
  where
    P : Type 0
    P = (task ≤ k) × (k ≤ runnable)

    is : (j : ℕ) → (task ≤ j) × (j ≤ runnable) → eqb k j ≡ true → (task ≤ k) × (k ≤ runnable)
    is j r q = rw (eqb-true k j q) r

pub tracked_range : (k : ℕ) → is_tracked k ≡ true → (task ≤ k) × (k ≤ semaphore)
unfolding is_tracked
tracked_range k =
    either_true (has_instances k) (eqb k semaphore) ((task ≤ k) × (k ≤ semaphore))
    (λ q. let r = instances_range k q in (r.0, omega arith))
    (λ q. let r = eqb-true k semaphore q in (omega arith, omega arith))

pub instances_tracked : (k : ℕ) → has_instances k ≡ true → is_tracked k ≡ true
unfolding is_tracked
instances_tracked k q = rw q

pub semaphore_tracked : (k : ℕ) → eqb k semaphore ≡ true → is_tracked k ≡ true
unfolding is_tracked
semaphore_tracked k q = rw q (or-true (has_instances k))

-- ---- events that speak of tracked names

-- an event on a core is a process's
pub core_tracked : (e : Event) → on_core e ≡ true → is_tracked e.kind ≡ true
core_tracked e o = process_tracked e.kind (on_process e o)

-- ---- semaphores

-- what has instances is no semaphore
pub no_semaphore : (k : ℕ) → has_instances k ≡ true → eqb k semaphore ≡ false
no_semaphore k q = let r = instances_range k q in ne_eqb k semaphore (λ (p : k ≡ semaphore). omega arith)

-- and a semaphore's events are no activations
pub no_activation : (k a : ℕ) → eqb k semaphore ≡ true → activates k a ≡ false
unfolding activates is_process
no_activation k a e = rw (eqb-true k semaphore e)
