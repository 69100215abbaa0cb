-- `adding::sort::sort` meets its contract. The invariant: the rows from i on are in order at the front of the entries.
use mathlib.Core.Path.{◌≡◌}
use lib.ListN.{length, drop}
use Rattle.adding.specs.SortCode.{SortedInto}
use Rattle.adding.proofs.sort.sort.Given as goal

abbrev pub invariant-loop-i : goal.invariant-loop-i
invariant-loop-i l = (length l.sorted ≡ length l.initial.sorted) × SortedInto l.text (drop l.i l.places) l.sorted
