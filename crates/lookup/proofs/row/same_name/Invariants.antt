-- `lookup::row::same_name` meets its contract. The invariant: from i + 8 on the slices are the same.
use mathlib.Core.Path.{◌≡◌}
use Prim.Native.Nat.{◌+◌, ◌≤◌}
use lib.ListN.{length, drop}
use Rattle.lookup.proofs.row.same_name.Given as goal

abbrev pub invariant-loop-i : goal.invariant-loop-i
invariant-loop-i l = (l.i + 8 ≤ length l.row) × (length l.row ≡ length l.name) × (drop (l.i + 8) l.row ≡ drop (l.i + 8) l.name)

abbrev pub decreases-loop-i : goal.decreases-loop-i
decreases-loop-i l = l.i
