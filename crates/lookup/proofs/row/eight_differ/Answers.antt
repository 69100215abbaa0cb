use Prim.Native.Nat.{◌+◌}
use native.Mathlib.Omega.{arith}
use Rattle.lookup.proofs.Compared.{eight_other, eight_turn}
use Rattle.lookup.proofs.row.eight_differ.Goals as goal

pub loop-k-preserved : goal.loop-k-preserved
loop-k-preserved c =
    let a = c.args in
    let i = a.at + c.loop-k.k in (
      eight_other a.row.now a.name.now i c.loop-k.differ c.loop-k.invariant.0,
      eight_turn a.row.now a.name.now a.at c.loop-k.k c.loop-k.differ (omega arith) c.requires.1 c.loop-k.invariant.1,
    )
