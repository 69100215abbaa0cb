-- `store::places::free_place` meets its contract. The invariant: the first free place is the first one from the distance `d` on.
use Rattle.std.proofs.Common.{◌≡◌}
use Rattle.index.specs.Index.{free}
use Rattle.store.proofs.PlaceStores.{free_from}
use Rattle.store.proofs.places.free_place.Given as goal

abbrev pub invariant-loop-d : goal.invariant-loop-d
invariant-loop-d l = free l.index l.home ≡ free_from l.index l.home l.d
