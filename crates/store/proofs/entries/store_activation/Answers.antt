-- `store::entries::store_activation` meets its contract: the first number where there is none yet, and then the last one.
use Rattle.std.proofs.Common.{le-ltb, lt-ltb, eq-eqb, ne_eqb}
use Rattle.tables.specs.Entry.{name_rows}
use Rattle.store.specs.Store.{store_activation}
use Rattle.store.proofs.entries.store_activation.Goals as goal
use Rattle.store.proofs.entries.store_activation.Goals.{then-nums-i-eq0, else-nums-i-eq0}

pub returns-then-i-ge-NAME_ROWS : goal.returns-then-i-ge-NAME_ROWS
unfolding store_activation
returns-then-i-ge-NAME_ROWS c = rw (le-ltb _ name_rows c.if-i-ge-NAME_ROWS.true)

pub returns : goal.returns
unfolding store_activation
returns c =
    rw (lt-ltb _ name_rows c.if-i-ge-NAME_ROWS.false)
    (elim c.if-nums-i-eq0.branch [
      | then-nums-i-eq0 w ↦ rw (eq-eqb _ 0 w.if-nums-i-eq0.true) (rw w.nums-is at c.store_number.ensures)
      | else-nums-i-eq0 w ↦ rw (ne_eqb _ 0 w.if-nums-i-eq0.false) (rw w.nums-is at c.store_number.ensures)
    ])
