-- `forms::rule::targets_own` meets its contract: the events of two classes are their target's own.
use Rattle.forms.proofs.Rules.{own_class}
use Rattle.forms.proofs.rule.targets_own.Goals as goal

pub returns : goal.returns
returns c = rw (own_class _ _ c.class_of-class.ensures)
