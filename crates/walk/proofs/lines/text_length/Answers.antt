-- `walk::lines::text_length` meets its contract: there is no byte, the last is a byte 13, or it is another.
use native.Mathlib.Omega.{arith}
use Rattle.walk.proofs.Cuts.{text_front, text_cr, text_plain}
use Rattle.walk.proofs.lines.text_length.Goals as goal

pub returns-then-n-eq0 : goal.returns-then-n-eq0
returns-then-n-eq0 c = omega (arith, (text_front c.args.p.now).0)

pub returns-then-p-n-eq13 : goal.returns-then-p-n-eq13
returns-then-p-n-eq13 c = text_cr _ c.if-p-n-eq13.true

pub returns : goal.returns
returns c = text_plain _ c.if-p-n-eq13.false
