-- `judge::one_line::count_line` meets its contract: the entry grows by one.
use Rattle.std.proofs.Common.{refl}
use Rattle.judge.specs.Feed.{counted}
use Rattle.judge.proofs.one_line.count_line.Goals as goal

pub returns : goal.returns
unfolding counted
returns c = (refl, refl)
