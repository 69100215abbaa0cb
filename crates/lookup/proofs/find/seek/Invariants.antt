-- `lookup::find::seek` meets its contract. The invariant: what is found is what is found from the distance `d` on.
use mathlib.Core.Path.{◌≡◌}
use Rattle.index.specs.Index.{sought}
use Rattle.lookup.specs.Find.{ends_at, row_met}
use Rattle.lookup.proofs.Seeks.{met_from}
use Rattle.lookup.proofs.find.seek.Given as goal

abbrev pub invariant-loop-d : goal.invariant-loop-d
invariant-loop-d l = row_met l.index l.home (sought l.index l.home (ends_at l.names l.nums l.name)) ≡ met_from l.names l.nums l.name l.index l.home l.d
