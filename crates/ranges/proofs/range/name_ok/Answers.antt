-- `ranges::range::name_ok` meets its contract: its tests and those of the functions called are the definition's.
use Rattle.ranges.specs.Range.{name_ok}
use Rattle.ranges.proofs.range.name_ok.Goals as goal

pub returns : goal.returns
unfolding name_ok
returns c = rw (c.standing_ok-standing.ensures, c.bytes_ok-bytes.ensures, c.sums_ok-sums.ensures)
