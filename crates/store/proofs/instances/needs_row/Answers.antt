-- `store::instances::needs_row` meets its contract: at each exit the tests passed say what the definition's tests say.
use Rattle.std.proofs.Common.{arith, le-ltb, lt-ltb, eq-eqb, ne_eqb}
use Rattle.rules.specs.Words.{TERMINATED}
use Rattle.tables.specs.Entry.{name_rows}
use Rattle.store.specs.Store.{needs_row}
use Rattle.store.proofs.Stores.{below_unreached}
use Rattle.store.proofs.instances.needs_row.Goals as goal

pub returns-then-state-ne-IS_TERMINATED : goal.returns-then-state-ne-IS_TERMINATED
unfolding needs_row
returns-then-state-ne-IS_TERMINATED c = rw (ne_eqb _ TERMINATED c.if-state-ne-IS_TERMINATED.true)

pub returns-then-i-ge-NAME_ROWS : goal.returns-then-i-ge-NAME_ROWS
unfolding needs_row
returns-then-i-ge-NAME_ROWS c = rw (eq-eqb c.args.state TERMINATED (omega arith), le-ltb _ name_rows c.if-i-ge-NAME_ROWS.true)

pub returns-then-nums-i-eq0 : goal.returns-then-nums-i-eq0
unfolding needs_row
returns-then-nums-i-eq0 c = rw (eq-eqb c.args.state TERMINATED (omega arith), lt-ltb _ name_rows c.if-i-ge-NAME_ROWS.false, eq-eqb _ 0 c.if-nums-i-eq0.true)

pub returns : goal.returns
unfolding needs_row
returns c = rw (eq-eqb c.args.state TERMINATED (omega arith), lt-ltb _ name_rows c.if-i-ge-NAME_ROWS.false, ne_eqb _ 0 c.if-nums-i-eq0.false, below_unreached)
