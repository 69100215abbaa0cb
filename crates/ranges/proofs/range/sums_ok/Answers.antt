-- `ranges::range::sums_ok` meets its contract: its tests are the definition's.
use mathlib.Core.Path.{refl}
use Rattle.ranges.specs.Range.{sums_ok}
use Rattle.ranges.proofs.range.sums_ok.Goals as goal

pub returns : goal.returns
unfolding sums_ok
returns c = refl
