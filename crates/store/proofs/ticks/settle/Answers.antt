-- `store::ticks::settle` meets its contract: where both rows are ones of their columns, a line that takes the core adds to its idle ticks, and one that
-- gives it to the held ticks of the core and of its holder.
use Rattle.std.proofs.Common.{le-ltb, lt-ltb, eq-eqb, ne_eqb}
use Rattle.rules.specs.Core.{takes_core, gives_core}
use Rattle.tables.specs.Entry.{name_rows}
use Rattle.store.specs.Store.{settled}
use Rattle.store.proofs.ticks.settle.Goals as goal

pub returns-then-i-ge-NAME_ROWS : goal.returns-then-i-ge-NAME_ROWS
unfolding settled
returns-then-i-ge-NAME_ROWS c = rw (le-ltb _ name_rows c.if-i-ge-NAME_ROWS.true)

pub returns-then-p-ge-NAME_ROWS : goal.returns-then-p-ge-NAME_ROWS
unfolding settled
returns-then-p-ge-NAME_ROWS c = rw (lt-ltb _ name_rows c.if-i-ge-NAME_ROWS.false, le-ltb _ name_rows c.if-p-ge-NAME_ROWS.true)

pub returns-then-class-eq-TAKES_CORE : goal.returns-then-class-eq-TAKES_CORE
unfolding settled
returns-then-class-eq-TAKES_CORE c =
    rw (
      lt-ltb _ name_rows c.if-i-ge-NAME_ROWS.false,
      lt-ltb _ name_rows c.if-p-ge-NAME_ROWS.false,
      eq-eqb _ takes_core c.if-class-eq-TAKES_CORE.true,
      c.wrapping_add_u64.ensures.value,
      c.gap-more.ensures,
    )

pub returns-then-class-ne-GIVES_CORE : goal.returns-then-class-ne-GIVES_CORE
unfolding settled
returns-then-class-ne-GIVES_CORE c =
    rw (
      lt-ltb _ name_rows c.if-i-ge-NAME_ROWS.false,
      lt-ltb _ name_rows c.if-p-ge-NAME_ROWS.false,
      ne_eqb _ takes_core c.if-class-eq-TAKES_CORE.false,
      ne_eqb _ gives_core c.if-class-ne-GIVES_CORE.true,
    )

-- the core is given: its own sum first, and then its holder's
pub returns : goal.returns
unfolding settled
returns c =
    rw (
      lt-ltb _ name_rows c.if-i-ge-NAME_ROWS.false,
      lt-ltb _ name_rows c.if-p-ge-NAME_ROWS.false,
      ne_eqb _ takes_core c.if-class-eq-TAKES_CORE.false,
      eq-eqb _ gives_core c.if-class-ne-GIVES_CORE.false,
      c.wrapping_add_u64-3.ensures.value,
      c.wrapping_add_u64-2.ensures.value,
      c.gap-more.ensures,
    )
