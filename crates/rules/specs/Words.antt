-- The numbers that stand for kinds, event words and states. Those of event words are the ones that `words` gives to all 38; passed on are those of T, I, R
-- and SEM lines.
use Rattle.std.specs.Prelude.{ℕ}
pub use Rattle.words.specs.Code.{activate, interrupt_suspended, mtalimitexceeded, park, poll, poll_parking, preempt, release, release_parking, resume, run, start, terminate, wait, suspend}
pub use Rattle.words.specs.Code.{assigned, decrement, free, full, increment, lock, lock_used, overfull, queued, released, requestsemaphore, unlock, unlock_full, used, waiting}

-- "the five kinds (core, T, I, R, SEM)"; any other type (STI, SCHED, EVENT, SIG) is 0
abbrev pub core : ℕ
core = 1

abbrev pub task : ℕ
task = 2

abbrev pub interrupt : ℕ
interrupt = 3

abbrev pub runnable : ℕ
runnable = 4

abbrev pub semaphore : ℕ
semaphore = 5

-- the states of processes and runnables
abbrev pub TERMINATED : ℕ
TERMINATED = 1

abbrev pub ACTIVE : ℕ
ACTIVE = 2

abbrev pub RUNNING : ℕ
RUNNING = 3

abbrev pub READY : ℕ
READY = 4

abbrev pub WAITING : ℕ
WAITING = 5

abbrev pub POLLING : ℕ
POLLING = 6

abbrev pub PARKING : ℕ
PARKING = 7

abbrev pub SUSPENDED : ℕ
SUSPENDED = 8

-- the states of semaphores
abbrev pub FREE : ℕ
FREE = 1

abbrev pub USED : ℕ
USED = 2

abbrev pub FULL : ℕ
FULL = 3

abbrev pub OVERFULL : ℕ
OVERFULL = 4
