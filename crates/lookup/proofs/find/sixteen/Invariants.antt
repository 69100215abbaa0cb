-- `lookup::find::sixteen` meets its contract. The invariant: `m` has the marks of the rows passed, and `w` is the weight of the next.
use mathlib.Core.Path.{◌≡◌}
use Prim.Native.Nat.{◌^◌}
use Rattle.marks.specs.Marks.{marks_from}
use Rattle.lookup.specs.Find.{instance_is}
use Rattle.lookup.proofs.find.sixteen.Given as goal

abbrev pub invariant-loop-k : goal.invariant-loop-k
invariant-loop-k l = (l.m ≡ marks_from (instance_is l.nums l.owner l.number) l.at l.k) × (l.w ≡ 2 ^ l.k)
