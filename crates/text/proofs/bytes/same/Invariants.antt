-- `text::bytes::same` meets its contract. The invariant: from `i` on the slices are the same.
use Rattle.std.proofs.Common.{◌≡◌, drop, length}
use Rattle.text.proofs.bytes.same.Given as goal

abbrev pub invariant-loop-i : goal.invariant-loop-i
invariant-loop-i l = (length l.s ≡ length l.t) × (drop l.i l.s ≡ drop l.i l.t)
