-- `steps::kind::with_instances` meets its contract: its tests are the definition's.
use Rattle.rules.specs.History.{has_instances}
use Rattle.steps.proofs.kind.with_instances.Goals as goal

pub returns : goal.returns
unfolding has_instances
returns c = rw c.is_process.ensures
