-- After n traces, what remains from the index on gives the container's end. Each trace lies behind the one before.
use Rattle.std.proofs.Common.{◌-◌, ◌≤◌, length}
use Rattle.bundle.proofs.Apart.{Remains}
use Rattle.bundle.proofs.container.say_traces.Given as goal

abbrev pub invariant-loop-at : goal.invariant-loop-at
invariant-loop-at l = (l.at ≤ length l.s) × (l.traces ≤ l.at) × Remains l.s l.at l.traces

abbrev pub decreases-loop-at : goal.decreases-loop-at
decreases-loop-at l = length l.s - l.at
