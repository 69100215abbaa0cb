-- `store::instances::give_back` meets its contract: the last row is read before its entries are stored in the row j, where both are rows of their columns.
use Rattle.std.proofs.Common.{le-ltb, lt-ltb, eq-eqb, ne_eqb, le-leb}
use borrow.Author.Tests.{lt-leb}
use Rattle.tables.specs.Entry.{instance_rows}
use Rattle.store.specs.Store.{given_back}
use Rattle.store.proofs.instances.give_back.Goals as goal

pub returns-then-j-ge-INSTANCE_ROWS : goal.returns-then-j-ge-INSTANCE_ROWS
unfolding given_back
returns-then-j-ge-INSTANCE_ROWS c = rw (le-ltb _ instance_rows c.if-j-ge-INSTANCE_ROWS.true)

pub returns-then-n-eq0 : goal.returns-then-n-eq0
unfolding given_back
returns-then-n-eq0 c = rw (lt-ltb _ instance_rows c.if-j-ge-INSTANCE_ROWS.false, eq-eqb _ 0 c.if-n-eq0.true)

pub returns-then-n-gt-INSTANCE_LIMIT : goal.returns-then-n-gt-INSTANCE_LIMIT
unfolding given_back
returns-then-n-gt-INSTANCE_LIMIT c = rw (lt-ltb _ instance_rows c.if-j-ge-INSTANCE_ROWS.false, ne_eqb _ 0 c.if-n-eq0.false, lt-leb _ instance_rows c.if-n-gt-INSTANCE_LIMIT.true)

pub returns : goal.returns
unfolding given_back
returns c = rw (lt-ltb _ instance_rows c.if-j-ge-INSTANCE_ROWS.false, ne_eqb _ 0 c.if-n-eq0.false, le-leb _ instance_rows c.if-n-gt-INSTANCE_LIMIT.false)
