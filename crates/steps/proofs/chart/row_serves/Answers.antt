-- `chart::row_serves` meets its contract: the test is the definition's.
use Rattle.std.proofs.Common.{refl}
use Rattle.steps.specs.Rows.{row_serves}
use Rattle.steps.proofs.chart.row_serves.Goals as goal

pub returns : goal.returns
unfolding row_serves
returns c = refl
