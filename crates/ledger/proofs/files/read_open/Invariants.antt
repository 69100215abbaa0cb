-- What was read is in the buffer. The measure is the room that is left.
use Rattle.std.proofs.Common.{◌-◌, ◌≡◌, ◌≤◌, length}
use Rattle.ledger.proofs.files.read_open.Given as goal

abbrev pub invariant-loop-have : goal.invariant-loop-have
invariant-loop-have g l = (l.have ≤ length l.buf) × (length l.buf ≡ length l.fn.buf)

abbrev pub decreases-loop-have : goal.decreases-loop-have
decreases-loop-have g l = length l.fn.buf - l.have
