-- `outcome::figure::charge` meets its contract. The invariant: the sum is the charge that the first k rows make.
use Rattle.std.proofs.Common.{◌≡◌}
use Rattle.sheet.specs.Figure.{charge_to}
use Rattle.outcome.proofs.figure.charge.Given as goal

abbrev pub invariant-loop-k : goal.invariant-loop-k
invariant-loop-k l = l.sum ≡ charge_to l.nums l.ticks l.i l.k
