-- `ranges::range::line_level_ok` meets its contract: its tests are the definition's.
use mathlib.Core.Path.{refl}
use Rattle.ranges.specs.Range.{line_level_ok}
use Rattle.ranges.proofs.range.line_level_ok.Goals as goal

pub returns : goal.returns
unfolding line_level_ok
returns c = refl
