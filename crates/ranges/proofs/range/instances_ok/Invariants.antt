-- `ranges::range::instances_ok` meets its contract. The invariant: every row before `j` passes.
use mathlib.Core.Path.{◌≡◌}
use mathlib.Core.Bool.{true}
use Prim.Native.Nat.{ℕ, ◌<◌}
use Rattle.ranges.specs.Range.{instance_ok}
use Rattle.ranges.proofs.range.instances_ok.Given as goal

abbrev pub invariant-loop-j : goal.invariant-loop-j
invariant-loop-j l = (k : ℕ) → k < l.j → instance_ok l.nums k ≡ true
