-- `words::class::class_of` meets its contract: an event's class is that of its code.
use mathlib.Core.Path.{◌∙◌}
use Rattle.words.specs.Class.{class_of}
use Rattle.words.proofs.class.class_of.Goals as goal

pub returns : goal.returns
unfolding class_of
returns c = c.class_at.ensures ∙ rw c.action_code.ensures
