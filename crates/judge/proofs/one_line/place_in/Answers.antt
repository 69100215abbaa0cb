-- `judge::one_line::place_in` meets its contract: each entry is the definition's.
use Rattle.std.proofs.Common.{refl}
use Rattle.judge.specs.Feed.{place_in}
use Rattle.judge.proofs.one_line.place_in.Goals as goal

pub returns : goal.returns
unfolding place_in
returns c = refl
