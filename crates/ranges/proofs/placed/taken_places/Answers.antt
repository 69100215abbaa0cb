-- `ranges::placed::taken_places` meets its contract: what is counted is the definition's count.
use borrow.Author.Rules.{rules}
use Rattle.index.specs.Taken.{taken_places}
use Rattle.ranges.proofs.placed.taken_places.Goals as goal

pub returns : goal.returns
unfolding taken_places
returns c = search rules
