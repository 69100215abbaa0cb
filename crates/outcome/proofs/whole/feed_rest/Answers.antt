-- `outcome::whole::feed_rest` meets its contract: an empty rest is no line, any other is one.
use Rattle.outcome.proofs.Wholes.{no_rest, one_rest}
use Rattle.outcome.proofs.whole.feed_rest.Goals as goal

pub returns-then-trace-used : goal.returns-then-trace-used
returns-then-trace-used c = no_rest _ _ _ c.if-trace-used.true

pub returns : goal.returns
returns c = one_rest _ _ _ c.if-trace-used.false c.feed.ensures
