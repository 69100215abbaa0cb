-- `adding::put::figures_at` meets its contract: the three amounts of the row's line.
use Rattle.adding.proofs.Amounts.{figures_read}
use Rattle.adding.proofs.put.figures_at.Goals as goal

pub returns : goal.returns
returns c = figures_read _ _ c.line_at-line.ensures c.amount.ensures c.amount-2.ensures c.amount-3.ensures
