-- `store::entries::store_instance` meets its contract: three stores where both rows are ones of their columns.
use Rattle.std.proofs.Common.{le-ltb, lt-ltb}
use Rattle.tables.specs.Entry.{name_rows, instance_rows}
use Rattle.store.specs.Store.{store_instance}
use Rattle.store.proofs.entries.store_instance.Goals as goal

pub returns-then-j-ge-INSTANCE_ROWS : goal.returns-then-j-ge-INSTANCE_ROWS
unfolding store_instance
returns-then-j-ge-INSTANCE_ROWS c = rw (le-ltb _ instance_rows c.if-j-ge-INSTANCE_ROWS.true)

pub returns-then-owner-ge-NAME_ROWS : goal.returns-then-owner-ge-NAME_ROWS
unfolding store_instance
returns-then-owner-ge-NAME_ROWS c = rw (lt-ltb _ instance_rows c.if-j-ge-INSTANCE_ROWS.false, le-ltb _ name_rows c.if-owner-ge-NAME_ROWS.true)

pub returns : goal.returns
unfolding store_instance
returns c = rw (lt-ltb _ instance_rows c.if-j-ge-INSTANCE_ROWS.false, lt-ltb _ name_rows c.if-owner-ge-NAME_ROWS.false)
