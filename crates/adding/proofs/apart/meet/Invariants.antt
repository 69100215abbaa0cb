-- `adding::apart::meet` meets its contract. The invariant: a name stands in both sections if one does in what is left of them.
use mathlib.Core.Path.{◌≡◌}
use mathlib.Core.List.{map}
use Prim.Native.Nat.{◌+◌, ◌-◌, ◌≤◌}
use lib.ListN.{length, drop}
use Rattle.sorting.specs.Sets.{meets}
use Rattle.paper.specs.Lines.{name_at}
use Rattle.adding.proofs.apart.meet.Given as goal

abbrev pub invariant-loop-i : goal.invariant-loop-i
invariant-loop-i l =
    (l.i ≤ length l.left) × (l.j ≤ length l.right)
    × (meets (map (name_at l.s) l.left) (map (name_at l.t) l.right) ≡ meets (drop l.i (map (name_at l.s) l.left)) (drop l.j (map (name_at l.t) l.right)))

abbrev pub decreases-loop-i : goal.decreases-loop-i
decreases-loop-i l = (length l.left - l.i) + (length l.right - l.j)
