-- `chart::process_step` meets its contract. The rows of the code are those of the definition's chart: the checker compares them entry by entry.
use mathlib.Core.Path.{refl, ◌∙◌}
use Rattle.rules.specs.Charts.{process_chart}
use Rattle.steps.specs.Rows.{flat, plain}
use Rattle.steps.proofs.Rows.{moves}
use Rattle.steps.proofs.chart.process_step.Goals as goal

pub returns : goal.returns
unfolding flat plain process_chart
returns c = c.step.ensures ∙ moves process_chart refl _ _
