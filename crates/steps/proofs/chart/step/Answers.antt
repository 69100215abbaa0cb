-- `chart::step` meets its contract: the three answers are those of the definition, by what the two searches found.
use borrow.Author.Tests.{eq-eqb, ne_eqb}
use Rattle.steps.specs.Rows.{move_in}
use Rattle.steps.proofs.chart.step.Goals as goal

pub returns-then-next-ne0 : goal.returns-then-next-ne0
unfolding move_in
returns-then-next-ne0 c = rw (← c.entered-next.ensures, ne_eqb _ _ c.if-next-ne0.true)

pub returns-then-entered-eq0 : goal.returns-then-entered-eq0
unfolding move_in
returns-then-entered-eq0 c = rw (← c.entered-next.ensures, ← c.entered.ensures, eq-eqb _ _ c.if-next-ne0.false, eq-eqb _ _ c.if-entered-eq0.true)

pub returns : goal.returns
unfolding move_in
returns c = rw (← c.entered-next.ensures, ← c.entered.ensures, eq-eqb _ _ c.if-next-ne0.false, ne_eqb _ _ c.if-entered-eq0.false)
