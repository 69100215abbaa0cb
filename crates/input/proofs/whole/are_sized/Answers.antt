-- Its tests are the definition's.
use Rattle.input.specs.Whole.{are_sized}
use Rattle.input.proofs.whole.are_sized.Goals as goal

pub returns : goal.returns
unfolding are_sized
returns c = rw (← c.sized.ensures)
