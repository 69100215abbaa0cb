-- `tables::size::sized` meets its contract: at each exit the tests passed say what the definition's tests say.
use mathlib.Core.Path.{refl}
use borrow.Author.Tests.{eq-eqb, ne_eqb}
use Rattle.tables.specs.Sized.{is_sized}
use Rattle.tables.proofs.Chains.{pass, stop}
use Rattle.tables.proofs.size.sized.Goals as goal

pub returns-then-names-ne-NAMES_SIZE : goal.returns-then-names-ne-NAMES_SIZE
unfolding is_sized
returns-then-names-ne-NAMES_SIZE c = stop _ (ne_eqb _ _ c.if-names-ne-NAMES_SIZE.true)

pub returns-then-nums-ne-NUMS_SIZE : goal.returns-then-nums-ne-NUMS_SIZE
unfolding is_sized
returns-then-nums-ne-NUMS_SIZE c = pass (eq-eqb _ _ c.if-names-ne-NAMES_SIZE.false) (stop _ (ne_eqb _ _ c.if-nums-ne-NUMS_SIZE.true))

pub returns : goal.returns
unfolding is_sized
returns c = pass (eq-eqb _ _ c.if-names-ne-NAMES_SIZE.false) (pass (eq-eqb _ _ c.if-nums-ne-NUMS_SIZE.false) refl)
