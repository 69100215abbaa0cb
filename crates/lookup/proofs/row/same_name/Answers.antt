use native.Mathlib.Omega.{arith}
use Rattle.lookup.proofs.Compared.{same_later, eight_end}
use Rattle.lookup.proofs.row.same_name.Goals as goal

pub returns-then-i-lt8 : goal.returns-then-i-lt8
returns-then-i-lt8 c =
    let e = c.eight_differ-then-i-lt8.ensures in
    eight_end _ _ c.eight_differ-then-i-lt8.result e.0 (λ q. e.1 q (same_later _ _ c.loop-i.i 8 (omega arith) (c.eight_differ.ensures.1 c.if-eight_differ.false c.loop-i.invariant.2)))
