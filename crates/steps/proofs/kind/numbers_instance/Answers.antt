-- `steps::kind::numbers_instance` meets its contract: its tests are the definition's.
use mathlib.Core.Bool.{or-false}
use Rattle.rules.specs.History.{activates}
use Rattle.steps.proofs.kind.numbers_instance.Goals as goal

pub returns : goal.returns
unfolding activates
returns c = rw (c.is_process.ensures, or-false)
