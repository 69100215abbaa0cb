-- `ranges::placed::row_placed` meets its contract. The invariant: what is found is what is found from distance `d` on.
use mathlib.Core.Path.{◌≡◌}
use Prim.Native.Nat.{◌-◌}
use Rattle.marks.specs.First.{first_of}
use Rattle.tables.specs.Entry.{place_rows}
use Rattle.index.specs.Index.{entry}
use Rattle.ranges.specs.IndexCode.{vacant, holds_row, row_placed}
use Rattle.ranges.proofs.placed.row_placed.Given as goal

abbrev pub invariant-loop-d : goal.invariant-loop-d
invariant-loop-d l = row_placed l.index l.home l.r ≡ holds_row l.index l.home l.r (first_of (λ d. vacant l.r (entry l.index l.home d)) l.d (place_rows - l.d))
