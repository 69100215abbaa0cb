-- `run::chunk::carry_over` meets its contract: a rest that is too long is fed, and any other is moved to the front.
use Rattle.run.proofs.Turns.{left_long, left_more}
use Rattle.run.proofs.chunk.carry_over.Goals as goal

pub returns-then-left-gt-CARRIED_MOST : goal.returns-then-left-gt-CARRIED_MOST
returns-then-left-gt-CARRIED_MOST c = left_long _ _ _ _ c.requires c.if-left-gt-CARRIED_MOST.true c.feed.ensures

pub returns : goal.returns
returns c = left_more _ _ _ _ c.requires c.if-left-gt-CARRIED_MOST.false c.shift.ensures
