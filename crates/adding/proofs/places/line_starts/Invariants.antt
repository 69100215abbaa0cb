-- `adding::places::line_starts` meets its contract. The invariant: the lines stored and those from `at` on are all lines.
use Prim.Native.Nat.{◌-◌}
use lib.ListN.{length}
use Rattle.adding.proofs.LinePlaces.{Placing}
use Rattle.adding.proofs.places.line_starts.Given as goal

abbrev pub invariant-loop-at : goal.invariant-loop-at
invariant-loop-at l = Placing l.text l.starts l.at l.n

abbrev pub decreases-loop-at : goal.decreases-loop-at
decreases-loop-at l = length l.text - l.at
