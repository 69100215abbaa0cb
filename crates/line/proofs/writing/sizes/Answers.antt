-- `line::writing::sizes` meets its contract: its tests are the definition's.
use Rattle.line.specs.Writing.{has_sizes}
use Rattle.line.proofs.Texts.{empty_length}
use Rattle.line.proofs.writing.sizes.Goals as goal

pub returns : goal.returns
unfolding has_sizes
returns c = rw (c.name.ensures, c.name-2.ensures, c.name-3.ensures, empty_length)
