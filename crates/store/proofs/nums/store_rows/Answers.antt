-- `store::nums::store_rows` meets its contract: the row of a new core, and after it the row of a new target.
use Rattle.std.proofs.Common.{◌∙◌}
use Rattle.store.specs.Store.{store_row, with_rows}
use Rattle.store.proofs.Stores.{made, unmade, made_next}
use Rattle.store.proofs.nums.store_rows.Goals as goal
use Rattle.store.proofs.nums.store_rows.Goals.{then-new_core-eq1, else-new_core-eq1}

pub returns-then-new_name-eq1 : goal.returns-then-new_name-eq1
unfolding with_rows
returns-then-new_name-eq1 c =
    made_next (λ l i. store_row l i c.args.kind c.args.m) c.new_name.ensures c.if-new_name-eq1.true
    (elim c.if-new_core-eq1.branch [
      | then-new_core-eq1 w ↦ made _ c.new_core.ensures w.if-new_core-eq1.true (w.nums-is ∙ w.store_row.ensures)
      | else-new_core-eq1 w ↦ unmade _ c.new_core.ensures w.if-new_core-eq1.false w.nums-is
    ])
    c.target_row-row.ensures c.store_row-then-new_name-eq1.ensures

pub returns-else-new_name-eq1 : goal.returns-else-new_name-eq1
unfolding with_rows
returns-else-new_name-eq1 c =
    unmade _ c.new_name.ensures c.if-new_name-eq1.false
    (elim c.if-new_core-eq1.branch [
      | then-new_core-eq1 w ↦ made _ c.new_core.ensures w.if-new_core-eq1.true (w.nums-is ∙ w.store_row.ensures)
      | else-new_core-eq1 w ↦ unmade _ c.new_core.ensures w.if-new_core-eq1.false w.nums-is
    ])
