-- `index::hash::home_of` meets its contract: the upper bits of the fold.
use Rattle.std.proofs.Common.{◌/◌, ◌^◌, ap}
use Rattle.index.specs.Hash.{home_of}
use Rattle.index.proofs.hash.home_of.Goals as goal

pub returns : goal.returns
unfolding home_of
returns c = ap (λ h. h / 2 ^ 23) c.fold.ensures
