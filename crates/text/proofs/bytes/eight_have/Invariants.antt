-- `text::bytes::eight_have` meets its contract. The invariant: where none was b yet, the first byte b stands no earlier than at + k.
use Rattle.std.proofs.Common.{◌≡◌, ◌+◌, false}
use Rattle.text.specs.Bytes.{find_from}
use Rattle.text.proofs.bytes.eight_have.Given as goal

abbrev pub invariant-loop-k : goal.invariant-loop-k
invariant-loop-k l = l.have ≡ false → find_from l.b l.s l.at ≡ find_from l.b l.s (l.at + l.k)
