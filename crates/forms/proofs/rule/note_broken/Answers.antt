-- `forms::rule::note_broken` meets its contract: at set_event a note is required, and at any other event each arm says what its types ask.
use borrow.Author.Rules.{rules}
use Rattle.forms.proofs.Rules.{note_set, note_other}
use Rattle.forms.proofs.rule.note_broken.Goals as goal

pub returns-then-class_of-eq-EVENT_SETTING : goal.returns-then-class_of-eq-EVENT_SETTING
returns-then-class_of-eq-EVENT_SETTING c = rw (note_set _ _ _ _ c.class_of.ensures c.if-class_of-eq-EVENT_SETTING.true)

pub returns-in-Signal : goal.returns-in-Signal
returns-in-Signal c = rw (note_other _ _ _ _ c.class_of.ensures c.if-class_of-eq-EVENT_SETTING.false, c.in-Signal.is)

pub returns-in-Semaphore : goal.returns-in-Semaphore
returns-in-Semaphore c = rw (note_other _ _ _ _ c.class_of.ensures c.if-class_of-eq-EVENT_SETTING.false, c.in-Semaphore.is)

pub returns-in_default : goal.returns-in_default
returns-in_default c = rw (note_other _ _ _ _ c.class_of.ensures c.if-class_of-eq-EVENT_SETTING.false) (search rules)
