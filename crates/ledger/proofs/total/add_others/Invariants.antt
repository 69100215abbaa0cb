-- The total of the sheets before sheet i is held.
use Rattle.std.proofs.Common.{◌≡◌, length}
use Rattle.ledger.specs.Totals.{Holding}
use Rattle.ledger.proofs.total.add_others.Given as goal

abbrev pub invariant-loop-i : goal.invariant-loop-i
invariant-loop-i g l = (length l.held ≡ length l.fn.held) × (length l.buf ≡ length l.fn.buf) × Holding l.i l.n l.held
