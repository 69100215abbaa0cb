-- `text::number::read_number` meets its contract: the four exits are the cases of a number's first digits.
use Rattle.std.proofs.Common.{sym, ◌∙◌}
use Rattle.text.proofs.Numbers.{empty_bad, alone, leading_zero, no_leading_zero}
use Rattle.text.proofs.number.read_number.Goals as goal

pub returns-then-s-eq0 : goal.returns-then-s-eq0
returns-then-s-eq0 c = sym (empty_bad _ _ c.if-s-eq0.true)

pub returns-then-s-eq1 : goal.returns-then-s-eq1
returns-then-s-eq1 c = c.fold.ensures ∙ alone _ _ c.if-s-eq1.true

pub returns-then-s-eq48 : goal.returns-then-s-eq48
returns-then-s-eq48 c = sym (leading_zero _ _ c.if-s-eq0.false c.if-s-eq1.false c.if-s-eq48.true)

pub returns : goal.returns
returns c = c.fold-2.ensures ∙ no_leading_zero _ _ c.if-s-eq0.false c.if-s-eq1.false c.if-s-eq48.false
