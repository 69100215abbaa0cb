-- `chart::entered` meets its contract. The loop's invariant: the search over all rows answers as the search over those that are left.
use Rattle.std.proofs.Common.{◌≡◌, drop}
use Rattle.steps.specs.Rows.{entered_in}
use Rattle.steps.proofs.chart.entered.Given as goal

abbrev pub invariant-loop-row : goal.invariant-loop-row
invariant-loop-row l = entered_in l.rows l.word l.state ≡ entered_in (drop l.row-index l.rows) l.word l.state
