-- `text::bytes::find` meets its contract. What `skip` passes over has no byte b. The invariant: neither has what stands before `i`.
use Rattle.std.proofs.Common.{◌≡◌, ◌-◌, length}
use Rattle.text.specs.Bytes.{find_from}
use Rattle.text.proofs.bytes.find.Given as goal

abbrev pub invariant-loop-i : goal.invariant-loop-i
invariant-loop-i l = find_from l.b l.s l.start ≡ find_from l.b l.s l.i

abbrev pub decreases-loop-i : goal.decreases-loop-i
decreases-loop-i l = length l.s - l.i
