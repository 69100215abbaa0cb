-- `adding::merge::put_sums` meets its contract. The invariant: what is left of the sum, put where the output goes on, completes it.
use Prim.Native.Nat.{◌+◌, ◌-◌}
use lib.ListN.{length}
use Rattle.adding.proofs.Walks.{Walk}
use Rattle.adding.proofs.merge.put_sums.Given as goal

abbrev pub invariant-loop-i : goal.invariant-loop-i
invariant-loop-i l = Walk l.section l.left.text.now l.left.places.now l.left.span l.right.text.now l.right.places.now l.right.span l.initial.out l.out l.i l.j l.count l.at

abbrev pub decreases-loop-i : goal.decreases-loop-i
decreases-loop-i l = (length l.left.places.now + length l.right.places.now) - (l.i + l.j)
