-- `forms::note::decimal` meets its contract: the three exits are a value with no dot, a wrong front, and what stands after the dot.
use mathlib.Core.Path.{◌∙◌}
use borrow.Author.Rules.{part_to_end}
use Rattle.forms.proofs.Notes.{no_dot, at_dot}
use Rattle.forms.proofs.note.decimal.Goals as goal

pub returns-then-s-dot : goal.returns-then-s-dot
returns-then-s-dot c = c.digits.ensures ∙ no_dot _ _ c.find-dot.ensures c.if-s-dot.true

pub returns-then-not-digits : goal.returns-then-not-digits
returns-then-not-digits c = rw (← c.digits-2.ensures, c.if-not-digits.true) at (at_dot _ _ c.find-dot.ensures c.if-s-dot.false)

pub returns : goal.returns
returns c = c.digits-3.ensures ∙ rw part_to_end (rw (← c.digits-2.ensures, c.if-not-digits.false) at (at_dot _ _ c.find-dot.ensures c.if-s-dot.false))
