-- `store::places::store_places` meets its contract: the place of a new core, and after it the place of a new target.
use Rattle.std.proofs.Common.{ap, ◌∙◌, arith}
use Rattle.index.proofs.Folds.{home_lt}
use Rattle.store.specs.Store.{store_place, with_places}
use Rattle.store.proofs.Stores.{made, unmade, made_next}
use Rattle.store.proofs.places.store_places.Goals as goal
use Rattle.store.proofs.places.store_places.Goals.{then-new_core-eq1, else-new_core-eq1}

pub store_place-requires : goal.store_place-requires
store_place-requires c = omega (arith, c.home_of.ensures, home_lt c.args.source.now)

pub store_place-requires-then-new_name-eq1 : goal.store_place-requires-then-new_name-eq1
store_place-requires-then-new_name-eq1 c =
    omega (arith, c.home_of-then-new_name-eq1.ensures, home_lt c.args.target.now)

pub returns-then-new_name-eq1 : goal.returns-then-new_name-eq1
unfolding with_places
returns-then-new_name-eq1 c =
    made_next (λ l home. store_place l c.args.p home) c.new_name.ensures c.if-new_name-eq1.true
    (elim c.if-new_core-eq1.branch [
      | then-new_core-eq1 w ↦ made _ c.new_core.ensures w.if-new_core-eq1.true (w.nums-is ∙ w.store_place.ensures ∙ ap (store_place c.args.nums.now c.args.i) w.home_of.ensures)
      | else-new_core-eq1 w ↦ unmade _ c.new_core.ensures w.if-new_core-eq1.false w.nums-is
    ])
    c.home_of-then-new_name-eq1.ensures c.store_place-then-new_name-eq1.ensures

pub returns-else-new_name-eq1 : goal.returns-else-new_name-eq1
unfolding with_places
returns-else-new_name-eq1 c =
    unmade _ c.new_name.ensures c.if-new_name-eq1.false
    (elim c.if-new_core-eq1.branch [
      | then-new_core-eq1 w ↦ made _ c.new_core.ensures w.if-new_core-eq1.true (w.nums-is ∙ w.store_place.ensures ∙ ap (store_place c.args.nums.now c.args.i) w.home_of.ensures)
      | else-new_core-eq1 w ↦ unmade _ c.new_core.ensures w.if-new_core-eq1.false w.nums-is
    ])
