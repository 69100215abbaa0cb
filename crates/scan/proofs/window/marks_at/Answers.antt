use Rattle.std.proofs.Common.{◌∙◌, arith}
use Rattle.scan.proofs.Windows.{marks_joined}
use Rattle.scan.proofs.window.marks_at.Goals as goal

pub returns : goal.returns
returns c = c.joined.ensures ∙ marks_joined c.args.s.now c.loop-k.l c.args.at (λ j h. c.loop-k.invariant.1 j (omega arith))
