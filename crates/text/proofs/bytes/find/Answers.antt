use Rattle.std.proofs.Common.{sym, ◌∙◌, arith}
use Rattle.text.proofs.Finds.{find_later, find_here, find_past}
use Rattle.text.proofs.bytes.find.Goals as goal

pub returns-then-s-i : goal.returns-then-s-i
returns-then-s-i c = sym (c.loop-i.invariant ∙ find_here _ _ _ (omega arith) (λ h. c.if-s-i.true))

pub loop-i-preserved : goal.loop-i-preserved
loop-i-preserved c = c.loop-i.invariant ∙ find_later _ _ _ c.loop-i-test.true c.if-s-i.false

pub returns : goal.returns
returns c = sym (c.loop-i.invariant ∙ find_past _ _ _ c.loop-i-test.false)
