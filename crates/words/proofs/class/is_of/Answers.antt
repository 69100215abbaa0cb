-- `words::class::is_of` meets its contract: an event is of a type exactly if its class is.
use mathlib.Core.Path.{◌∙◌}
use Rattle.words.proofs.Classes.{class_is_of_lem}
use Rattle.words.proofs.class.is_of.Goals as goal

pub returns : goal.returns
returns c = c.class_is_of.ensures ∙ rw c.class_of.ensures (class_is_of_lem _ _)
