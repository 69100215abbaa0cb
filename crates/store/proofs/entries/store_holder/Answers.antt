-- `store::entries::store_holder` meets its contract: two stores where both rows are ones of the names.
use Rattle.std.proofs.Common.{le-ltb, lt-ltb}
use Rattle.tables.specs.Entry.{name_rows}
use Rattle.store.specs.Store.{store_holder}
use Rattle.store.proofs.entries.store_holder.Goals as goal

pub returns-then-i-ge-NAME_ROWS : goal.returns-then-i-ge-NAME_ROWS
unfolding store_holder
returns-then-i-ge-NAME_ROWS c = rw (le-ltb _ name_rows c.if-i-ge-NAME_ROWS.true)

pub returns-then-p-ge-NAME_ROWS : goal.returns-then-p-ge-NAME_ROWS
unfolding store_holder
returns-then-p-ge-NAME_ROWS c = rw (lt-ltb _ name_rows c.if-i-ge-NAME_ROWS.false, le-ltb _ name_rows c.if-p-ge-NAME_ROWS.true)

pub returns : goal.returns
unfolding store_holder
returns c = rw (lt-ltb _ name_rows c.if-i-ge-NAME_ROWS.false, lt-ltb _ name_rows c.if-p-ge-NAME_ROWS.false)
