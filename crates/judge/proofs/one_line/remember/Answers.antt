-- `judge::one_line::remember` meets its contract: the line's number is read before the stores.
use Rattle.std.proofs.Common.{refl}
use Rattle.judge.specs.Feed.{remembered}
use Rattle.judge.proofs.one_line.remember.Goals as goal

pub returns : goal.returns
unfolding remembered
returns c = (refl, refl)
