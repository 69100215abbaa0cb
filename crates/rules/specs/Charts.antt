-- The three charts of document 01, and which type has which.
use Rattle.std.specs.Prelude.{Bool, ◌||◌, cond, List, [], ◌∷◌, ℕ, eqb}
use Rattle.rules.specs.Chart.{Step}
use Rattle.rules.specs.Words.{task, interrupt, runnable, semaphore}
use Rattle.rules.specs.Words.{activate, start, preempt, resume, wait, release, terminate, poll, run, park, poll_parking, release_parking, mtalimitexceeded, interrupt_suspended, suspend}
use Rattle.rules.specs.Words.{free, unlock, lock, lock_used, full, overfull, unlock_full, used}
use Rattle.rules.specs.Words.{TERMINATED, ACTIVE, RUNNING, READY, WAITING, POLLING, PARKING, SUSPENDED, FREE, USED, FULL, OVERFULL}

abbrev pub step : ℕ → ℕ → ℕ → Step
step a s n = record { word = a; first = s; others = []; enters = n }

-- "Process: activate TERMINATED→ACTIVE; .. interrupt_suspended ACTIVE→ACTIVE (house)."
unfoldable pub process_chart : List Step
process_chart =
    step activate TERMINATED ACTIVE
    ∷ step start ACTIVE RUNNING
    ∷ step preempt RUNNING READY
    ∷ step resume READY RUNNING
    ∷ step wait RUNNING WAITING
    ∷ step release WAITING READY
    ∷ step terminate RUNNING TERMINATED
    ∷ step poll RUNNING POLLING
    ∷ step run POLLING RUNNING
    ∷ step park POLLING PARKING
    ∷ step poll_parking PARKING POLLING
    ∷ step release_parking PARKING READY
    ∷ step mtalimitexceeded TERMINATED TERMINATED
    ∷ step interrupt_suspended ACTIVE ACTIVE
    ∷ []

-- "Runnable: start TERMINATED→RUNNING; suspend RUNNING→SUSPENDED; resume SUSPENDED→RUNNING; terminate RUNNING→TERMINATED."
unfoldable pub runnable_chart : List Step
runnable_chart =
    step start TERMINATED RUNNING
    ∷ step suspend RUNNING SUSPENDED
    ∷ step resume SUSPENDED RUNNING
    ∷ step terminate RUNNING TERMINATED
    ∷ []

-- "Semaphore: free USED→FREE; .. used FREE or USED→USED." with the row that document 02 gives it (No. 1): "overfull FULL or OVERFULL→OVERFULL"
unfoldable pub semaphore_chart : List Step
semaphore_chart =
    step free USED FREE
    ∷ step unlock FULL FREE
    ∷ step lock FREE FULL
    ∷ step lock_used USED FULL
    ∷ step full OVERFULL FULL
    ∷ record { word = overfull; first = FULL; others = OVERFULL ∷ []; enters = OVERFULL }
    ∷ step unlock_full FULL USED
    ∷ record { word = used; first = FREE; others = USED ∷ []; enters = USED }
    ∷ []

-- "tasks (T), interrupt routines (I)" are the processes
unfoldable pub is_process : ℕ → Bool
is_process k = eqb k task || eqb k interrupt

-- "STI, SCHED, EVENT and SIG lines .. only move the time": they have no chart
unfoldable pub chart_of : ℕ → List Step
chart_of k = cond (is_process k) process_chart (cond (eqb k runnable) runnable_chart (cond (eqb k semaphore) semaphore_chart []))
