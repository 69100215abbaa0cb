-- `ranges::range::counts_ok` meets its contract: its tests are the definition's.
use mathlib.Core.Path.{refl}
use Rattle.ranges.specs.Range.{counts_ok}
use Rattle.ranges.proofs.range.counts_ok.Goals as goal

pub returns : goal.returns
unfolding counts_ok
returns c = refl
