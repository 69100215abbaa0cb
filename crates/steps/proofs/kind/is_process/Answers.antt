-- `steps::kind::is_process` meets its contract: its tests are the definition's.
use mathlib.Core.Path.{refl}
use Rattle.rules.specs.Charts.{is_process}
use Rattle.steps.proofs.kind.is_process.Goals as goal

pub returns : goal.returns
unfolding is_process
returns c = refl
