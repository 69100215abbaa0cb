use Rattle.std.proofs.Common.{sym}
use Rattle.text.proofs.Words.{other_length, other_byte, back_end}
use Rattle.text.proofs.bytes.same.Goals as goal

pub returns-then-s-t : goal.returns-then-s-t
returns-then-s-t c = sym (other_length _ _ c.if-s-t.true)

pub returns-then-s-i : goal.returns-then-s-i
returns-then-s-i c = sym (other_byte _ _ _ c.if-s-i.true)

pub returns : goal.returns
returns c = sym (back_end _ _ _ c.loop-i-test.false c.loop-i.invariant.1)
