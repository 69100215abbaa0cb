-- `forms::rule::zero_source` meets its contract: the tests of the event's class say what the lists of events say.
use Rattle.forms.proofs.Rules.{source_class}
use Rattle.forms.proofs.rule.zero_source.Goals as goal

pub returns : goal.returns
returns c = rw (source_class _ _ _ c.class_of-class.ensures, c.process.ensures)
