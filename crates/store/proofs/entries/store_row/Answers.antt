-- `store::entries::store_row` meets its contract: six stores where the row is one of a name.
use Rattle.std.proofs.Common.{le-ltb, lt-ltb}
use Rattle.tables.specs.Entry.{name_rows}
use Rattle.store.specs.Store.{store_row}
use Rattle.store.proofs.entries.store_row.Goals as goal

pub returns-then-i-ge-NAME_ROWS : goal.returns-then-i-ge-NAME_ROWS
unfolding store_row
returns-then-i-ge-NAME_ROWS c = rw (le-ltb _ name_rows c.if-i-ge-NAME_ROWS.true)

pub returns : goal.returns
unfolding store_row
returns c = rw (lt-ltb _ name_rows c.if-i-ge-NAME_ROWS.false)
