-- `store::rows::core_row` meets its contract: the row found, or as many rows as there are.
use Rattle.store.specs.Store.{core_row}
use Rattle.store.proofs.rows.core_row.Goals as goal

pub returns-in-Some : goal.returns-in-Some
unfolding core_row
returns-in-Some c = rw c.in-Some.is

pub returns-in-None : goal.returns-in-None
unfolding core_row
returns-in-None c = rw c.in-None.is
