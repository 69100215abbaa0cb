-- `ranges::range::times_ok` meets its contract: its tests are the definition's.
use mathlib.Core.Path.{refl}
use Rattle.ranges.specs.Range.{times_ok}
use Rattle.ranges.proofs.range.times_ok.Goals as goal

pub returns : goal.returns
unfolding times_ok
returns c = refl
