use Rattle.std.proofs.Common.{sym, ◌∙◌}
use Rattle.steps.proofs.Rows.{row_turn, row_end}
use Rattle.steps.proofs.chart.entered.Goals as goal

pub returns-then-row_serves : goal.returns-then-row_serves
returns-then-row_serves c = sym (c.loop-row.invariant ∙ row_turn _ c.loop-row.row-index _ _ c.loop-row-test.true ∙ rw (← c.row_serves.ensures, c.if-row_serves.true))

pub loop-row-preserved : goal.loop-row-preserved
loop-row-preserved c = c.loop-row.invariant ∙ row_turn _ c.loop-row.row-index _ _ c.loop-row-test.true ∙ rw (← c.row_serves.ensures, c.if-row_serves.false)

pub returns : goal.returns
returns c = sym (c.loop-row.invariant ∙ row_end _ c.loop-row.row-index _ _ c.loop-row-test.false)
