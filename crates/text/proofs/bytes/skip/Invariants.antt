-- `text::bytes::skip` meets its contract. The invariant: the place found from `start` on is the one found from `i` on.
use Rattle.std.proofs.Common.{◌≡◌, ◌-◌, length}
use Rattle.text.specs.Bytes.{find_from}
use Rattle.text.proofs.bytes.skip.Given as goal

abbrev pub invariant-loop-i : goal.invariant-loop-i
invariant-loop-i l = (l.n ≡ length l.s) × (find_from l.b l.s l.start ≡ find_from l.b l.s l.i)

abbrev pub decreases-loop-i : goal.decreases-loop-i
decreases-loop-i l = length l.s - l.i
