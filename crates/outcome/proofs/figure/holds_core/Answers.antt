-- `outcome::figure::holds_core` meets its contract: the two tests are the definition's.
use Rattle.std.proofs.Common.{refl}
use Rattle.sheet.specs.Figure.{holds_core}
use Rattle.outcome.proofs.figure.holds_core.Goals as goal

pub returns : goal.returns
unfolding holds_core
returns c = refl
