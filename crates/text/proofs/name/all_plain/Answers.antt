use Rattle.std.proofs.Common.{sym}
use Rattle.text.proofs.Plain.{plain_turn, plain_end}
use Rattle.text.proofs.name.all_plain.Goals as goal

pub loop-b-preserved : goal.loop-b-preserved
loop-b-preserved c = plain_turn c.args.s.now c.loop-b.b-index c.loop-b.odd c.loop-b-test.true c.loop-b.invariant

pub returns : goal.returns
returns c = sym (plain_end _ _ c.loop-b.odd c.loop-b-test.false c.loop-b.invariant)
