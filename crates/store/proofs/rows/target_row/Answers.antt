-- `store::rows::target_row` meets its contract: the row found, or the one after the rows that there are and the core's.
use Rattle.store.specs.Store.{target_row}
use Rattle.store.proofs.rows.target_row.Goals as goal

pub returns-in-Some : goal.returns-in-Some
unfolding target_row
returns-in-Some c = rw c.in-Some.is

pub returns-in-None : goal.returns-in-None
unfolding target_row
returns-in-None c = rw (c.in-None.is, c.new_core-core.ensures)
