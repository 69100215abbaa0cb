-- `lookup::find::find_below` meets its contract. The invariant: the instance's last row below `to` is its last row below 16 * k.
use mathlib.Core.Path.{◌≡◌}
use Prim.Native.Nat.{◌*◌}
use Rattle.lookup.specs.Find.{instance_is, last_below}
use Rattle.lookup.proofs.find.find_below.Given as goal

abbrev pub invariant-loop-k : goal.invariant-loop-k
invariant-loop-k l = last_below (instance_is l.nums l.owner l.number) l.to ≡ last_below (instance_is l.nums l.owner l.number) (16 * l.k)
