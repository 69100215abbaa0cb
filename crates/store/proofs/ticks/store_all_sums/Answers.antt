-- `store::ticks::store_all_sums` meets its contract: the ticks of a new core, and after them those of a new target.
use Rattle.std.proofs.Common.{◌∙◌}
use Rattle.store.specs.Store.{store_sums, with_sums}
use Rattle.store.proofs.Stores.{made, unmade, made_next}
use Rattle.store.proofs.ticks.store_all_sums.Goals as goal
use Rattle.store.proofs.ticks.store_all_sums.Goals.{then-new_core-eq1, else-new_core-eq1}

pub returns-then-new_name-eq1 : goal.returns-then-new_name-eq1
unfolding with_sums
returns-then-new_name-eq1 c =
    made_next (λ l i. store_sums l i 0 0) c.new_name.ensures c.if-new_name-eq1.true
    (elim c.if-new_core-eq1.branch [
      | then-new_core-eq1 w ↦ made _ c.new_core.ensures w.if-new_core-eq1.true (w.ticks-is ∙ rw c.before_tracked-unknown.ensures at w.store_sums.ensures)
      | else-new_core-eq1 w ↦ unmade _ c.new_core.ensures w.if-new_core-eq1.false w.ticks-is
    ])
    c.target_row-row.ensures c.store_sums-then-new_name-eq1.ensures

pub returns-else-new_name-eq1 : goal.returns-else-new_name-eq1
unfolding with_sums
returns-else-new_name-eq1 c =
    unmade _ c.new_name.ensures c.if-new_name-eq1.false
    (elim c.if-new_core-eq1.branch [
      | then-new_core-eq1 w ↦ made _ c.new_core.ensures w.if-new_core-eq1.true (w.ticks-is ∙ rw c.before_tracked-unknown.ensures at w.store_sums.ensures)
      | else-new_core-eq1 w ↦ unmade _ c.new_core.ensures w.if-new_core-eq1.false w.ticks-is
    ])
