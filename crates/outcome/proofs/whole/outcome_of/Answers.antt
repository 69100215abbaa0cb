-- `outcome::whole::outcome_of` meets its contract: what the fresh start leaves is what the lines are fed to.
use Rattle.outcome.proofs.Wholes.{trace_asked}
use Rattle.outcome.proofs.whole.outcome_of.Goals as goal

pub returns : goal.returns
returns c = trace_asked _ _ _ c.fresh.ensures c.outcome_after.ensures
