-- `ranges::range::names_ok` meets its contract. The invariant: every row before `i` passes both tests. That a name's row passes says how long it may be, which its home needs.
use mathlib.Core.Path.{◌≡◌}
use mathlib.Core.Bool.{true}
use Prim.Native.Nat.{ℕ, ◌<◌}
use Rattle.ranges.specs.IndexCode.{name_tests}
use Rattle.ranges.proofs.range.names_ok.Given as goal

abbrev pub invariant-loop-i : goal.invariant-loop-i
invariant-loop-i l = (k : ℕ) → k < l.i → name_tests l.names l.nums l.ticks l.index k ≡ true
