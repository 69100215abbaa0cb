-- `store::take::take_names` meets its contract: the bytes of a new core, and after them those of a new target.
use Rattle.std.proofs.Common.{◌∙◌}
use Rattle.store.specs.Store.{store_name, taken_names}
use Rattle.store.proofs.Stores.{made, unmade, made_next}
use Rattle.store.proofs.take.take_names.Goals as goal
use Rattle.store.proofs.take.take_names.Goals.{then-new_core-eq1, else-new_core-eq1}

pub returns-then-new_name-eq1 : goal.returns-then-new_name-eq1
unfolding taken_names
returns-then-new_name-eq1 c =
    made_next (λ l i. store_name l i c.args.target.now) c.new_name.ensures c.if-new_name-eq1.true
    (elim c.if-new_core-eq1.branch [
      | then-new_core-eq1 w ↦ made _ c.new_core.ensures w.if-new_core-eq1.true (w.names-is ∙ w.store_name.ensures)
      | else-new_core-eq1 w ↦ unmade _ c.new_core.ensures w.if-new_core-eq1.false w.names-is
    ])
    c.target_row-row.ensures c.store_name-then-new_name-eq1.ensures

pub returns-else-new_name-eq1 : goal.returns-else-new_name-eq1
unfolding taken_names
returns-else-new_name-eq1 c =
    unmade _ c.new_name.ensures c.if-new_name-eq1.false
    (elim c.if-new_core-eq1.branch [
      | then-new_core-eq1 w ↦ made _ c.new_core.ensures w.if-new_core-eq1.true (w.names-is ∙ w.store_name.ensures)
      | else-new_core-eq1 w ↦ unmade _ c.new_core.ensures w.if-new_core-eq1.false w.names-is
    ])
