-- What came stands behind what was carried over, and the turn is that of one read.
use Rattle.std.proofs.Common.{inr, refl, arith, rules}
use Rattle.input.proofs.Steps.{at_end_lem, one_turn}
use Rattle.input.proofs.reads.one_read.Goals as goal

pub returns-then-bytes-eq0 : goal.returns-then-bytes-eq0
returns-then-bytes-eq0 g c = inr (c.if-bytes-eq0.true, at_end_lem _ c.in_ok-bytes.ensures c.take_last.ensures)

pub returns : goal.returns
returns g c = one_turn c.in_ok-bytes.ensures (omega arith) (omega arith) (λ i. search rules) _ c.take_chunk-left.ensures _ refl
