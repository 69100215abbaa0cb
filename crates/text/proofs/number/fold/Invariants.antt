-- `text::number::fold` meets its contract. The invariant: the number is that of `v` and the bytes left from its index.
use Rattle.std.proofs.Common.{◌≡◌, drop, Some}
use Rattle.text.specs.Number.{folded}
use Rattle.text.proofs.number.fold.Given as goal

abbrev pub invariant-loop-b : goal.invariant-loop-b
invariant-loop-b l = folded l.max (Some 0) l.s ≡ folded l.max (Some l.v) (drop l.b-index l.s)
