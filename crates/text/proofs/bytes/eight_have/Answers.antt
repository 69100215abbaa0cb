use Rattle.std.proofs.Common.{arith}
use Rattle.text.proofs.Finds.{gather_turn}
use Rattle.text.proofs.bytes.eight_have.Goals as goal

pub loop-k-preserved : goal.loop-k-preserved
loop-k-preserved c =
    let a = c.args in
    λ e. gather_turn a.b a.s.now a.at c.loop-k.k c.loop-k.have (omega arith) c.loop-k.invariant e
