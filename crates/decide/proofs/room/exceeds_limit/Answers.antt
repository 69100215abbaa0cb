-- `decide::room::exceeds_limit` meets its contract: its tests are the definition's.
use Rattle.rules.specs.Refusals.{exceeds_limit}
use Rattle.decide.proofs.room.exceeds_limit.Goals as goal

pub returns : goal.returns
unfolding exceeds_limit
returns c = rw c.is_process.ensures
