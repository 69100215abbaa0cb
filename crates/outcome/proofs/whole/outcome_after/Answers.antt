-- `outcome::whole::outcome_after` meets its contract: what each of the three calls leaves goes into the next.
use Rattle.outcome.proofs.Wholes.{lines_asked}
use Rattle.outcome.proofs.whole.outcome_after.Goals as goal

pub returns : goal.returns
returns c = lines_asked _ _ _ c.feed_chunk-fed.ensures c.feed_rest.ensures c.outcome_now.ensures
