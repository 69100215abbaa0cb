-- `words::class::class_at` meets its contract: a code within the table has the entry there, and any other has no class.
use borrow.Author.Rules.{rules}
use Rattle.words.specs.Class.{class_at}
use Rattle.words.proofs.Classes.{past_classes}
use Rattle.words.proofs.class.class_at.Goals as goal

pub returns-then-code-gt-WAITING : goal.returns-then-code-gt-WAITING
unfolding class_at
returns-then-code-gt-WAITING c = past_classes _ c.if-code-gt-WAITING.true

pub returns : goal.returns
unfolding class_at
returns c = search rules
