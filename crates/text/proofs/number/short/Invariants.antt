-- `text::number::short` meets its contract. The invariant: the number is that of `v` and the bytes left from its index, with one test at the end.
use Rattle.std.proofs.Common.{◌≡◌, ◌^◌, ◌<◌, drop, Some}
use Rattle.text.specs.Number.{folded}
use Rattle.text.proofs.Numbers.{tested}
use Rattle.text.proofs.number.short.Given as goal

abbrev pub invariant-loop-b : goal.invariant-loop-b
invariant-loop-b l = (l.v < 10 ^ l.b-index) × (folded l.max (Some 0) l.s ≡ tested l.max l.v (drop l.b-index l.s))
