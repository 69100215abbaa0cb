-- `store::entries::store_number` meets its contract: two stores where the row is one of a name.
use Rattle.std.proofs.Common.{le-ltb, lt-ltb}
use Rattle.tables.specs.Entry.{name_rows}
use Rattle.store.specs.Store.{store_number}
use Rattle.store.proofs.entries.store_number.Goals as goal

pub returns-then-i-ge-NAME_ROWS : goal.returns-then-i-ge-NAME_ROWS
unfolding store_number
returns-then-i-ge-NAME_ROWS c = rw (le-ltb _ name_rows c.if-i-ge-NAME_ROWS.true)

pub returns : goal.returns
unfolding store_number
returns c = rw (lt-ltb _ name_rows c.if-i-ge-NAME_ROWS.false)
