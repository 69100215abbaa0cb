-- `store::places::store_place` meets its contract: one store where the row is one of a name and a place is free.
use Rattle.std.proofs.Common.{le-ltb}
use Rattle.tables.specs.Entry.{name_rows}
use Rattle.store.specs.Store.{store_place}
use Rattle.store.proofs.PlaceStores.{placed, unplaced}
use Rattle.store.proofs.places.store_place.Goals as goal

pub returns-then-i-ge-NAME_ROWS : goal.returns-then-i-ge-NAME_ROWS
unfolding store_place
returns-then-i-ge-NAME_ROWS c = rw (le-ltb _ name_rows c.if-i-ge-NAME_ROWS.true)

pub returns-in-Some : goal.returns-in-Some
returns-in-Some c = placed _ _ _ c.if-i-ge-NAME_ROWS.false c.in-Some.ensures.0 c.in-Some.ensures.1

pub returns-in_default : goal.returns-in_default
returns-in_default c = unplaced _ _ _ c.if-i-ge-NAME_ROWS.false c.in_default.ensures
