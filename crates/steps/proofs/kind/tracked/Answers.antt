-- `steps::kind::tracked` meets its contract: its tests are the definition's.
use Rattle.rules.specs.History.{is_tracked}
use Rattle.steps.proofs.kind.tracked.Goals as goal

pub returns : goal.returns
unfolding is_tracked
returns c = rw c.with_instances.ensures
