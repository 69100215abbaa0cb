-- What holds after any events taken from a fresh start, in one record: the charts and the core rule as runs (demand 2), and the figures (demand 3).
use mathlib.Core.Path.{◌≡◌}
use mathlib.Core.List.{List, []}
use Prim.Native.Nat.{ℕ, ◌+◌, ◌*◌, ◌≤◌}
use Rattle.text.specs.Lists.{sum_over}
use Rattle.rules.specs.Chart.{Run}
use Rattle.rules.specs.Charts.{chart_of}
use Rattle.rules.specs.Event.{Event, Instance, words_of}
use Rattle.rules.specs.Core.{CoreRun, core_at, Alone}
use Rattle.rules.specs.History.{cores, processes}
use Rattle.rules.specs.Refusals.{event_tests}
use Rattle.rules.specs.Verdict.{Accepted, taken}
use Rattle.rules.specs.Lawful.{Fits}
use Rattle.rules.specs.Sheet.{held_ticks, idle_ticks, unknown_ticks, charge, charge_on, span}
use Rattle.rules.proofs.Answers.{accepted_exactly, allowed_exactly}
use Rattle.rules.proofs.Room.{all_fit}
use Rattle.rules.proofs.Verdicts.{taken_accepted}
use Rattle.rules.proofs.ChartFact.{chart_runs}
use Rattle.rules.proofs.CoreRuns.{kept_run}
use Rattle.rules.proofs.Totals.{core_total}
use Rattle.rules.proofs.Charges.{charge_by_core, charge_at_most, held_by_process, charges_total}
use Rattle.rules.proofs.Alone.{alone}

pub record Holds (h : List Event) : Type 0 where
  -- each instance's and semaphore's events are a run through its chart, from some state
  pub each_chart : (x : Instance) → (s : ℕ) × (n : ℕ) × Run (chart_of x.kind) s (words_of x h) n
  -- the events on each core are a run of the core rule, from unknown
  pub each_run : (c : List ℕ) → CoreRun c h (core_at c h)
  -- at most 256 names and 64 cores, and all along at most 1,024 instances that need an entry
  pub room : Fits h
  -- held + idle + unknown = last - first, for every core
  pub each_core : (c : List ℕ) → held_ticks c h + idle_ticks c h + unknown_ticks c h ≡ span h
  -- a process's charge is the sum over its cores
  pub each_charge : (p : List ℕ) → charge p h ≡ sum_over (λ c. charge_on p c h) (cores h)
  -- and at most the span for each of the 64 cores
  pub charge_bound : (p : List ℕ) → charge p h ≤ 64 * span h
  -- a core's held ticks are the sum over the processes
  pub each_held : (c : List ℕ) → sum_over (λ p. charge_on p c h) (processes h) ≡ held_ticks c h
  -- all charges add up to all held ticks
  pub all_charges : sum_over (λ p. charge p h) (processes h) ≡ sum_over (λ c. held_ticks c h) (cores h)
  -- each instance in RUNNING or POLLING holds exactly one core, and no other holds any
  pub nobody_shares : Alone h

pub accepted_holds : (h : List Event) → Accepted h → Holds h
unfolding event_tests
accepted_holds h a = record {
  each_chart = (chart_runs h).0 ((allowed_exactly h).0 ((accepted_exactly h).0 a 11)).0;
  each_run = kept_run h ((accepted_exactly h).0 a 13);
  room = all_fit h a;
  each_core = core_total h a;
  each_charge = charge_by_core h a;
  charge_bound = charge_at_most h a;
  each_held = held_by_process h a;
  all_charges = charges_total h a;
  nobody_shares = alone h a;
}

pub taken_holds : (es : List Event) → Holds (taken [] es)
taken_holds es = accepted_holds (taken [] es) (taken_accepted es [] tt)
