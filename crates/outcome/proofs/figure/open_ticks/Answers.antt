-- `outcome::figure::open_ticks` meets its contract: nothing is open where the last time is before `since`.
use Rattle.sheet.specs.Figure.{open_at}
use Rattle.outcome.proofs.figure.open_ticks.Goals as goal

pub returns : goal.returns
unfolding open_at
returns c = c.saturating_sub.ensures
