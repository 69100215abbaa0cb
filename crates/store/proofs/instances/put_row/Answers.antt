-- `store::instances::put_row` meets its contract: the row found, or the next one with the count after it, where there is a next one.
use Rattle.std.proofs.Common.{le-ltb, lt-ltb}
use Rattle.tables.specs.Entry.{instance_rows}
use Rattle.store.specs.Store.{put_row}
use Rattle.store.proofs.instances.put_row.Goals as goal

pub returns-in-Some : goal.returns-in-Some
unfolding put_row
returns-in-Some c = rw c.in-Some.is c.store_instance.ensures

pub returns-then-n-ge-INSTANCE_LIMIT : goal.returns-then-n-ge-INSTANCE_LIMIT
unfolding put_row
returns-then-n-ge-INSTANCE_LIMIT c = rw (c.in_default.is, le-ltb _ instance_rows c.if-n-ge-INSTANCE_LIMIT.true)

pub returns : goal.returns
unfolding put_row
returns c = rw (c.in_default.is, lt-ltb _ instance_rows c.if-n-ge-INSTANCE_LIMIT.false, c.store_instance-2.ensures)
