-- `scan::window::marks_at` meets its contract. The invariant: the entries before `k` are what the bytes add.
use Rattle.std.proofs.Common.{◌≡◌, length}
use Rattle.scan.proofs.Windows.{Weighed}
use Rattle.scan.proofs.window.marks_at.Given as goal

abbrev pub invariant-loop-k : goal.invariant-loop-k
invariant-loop-k l = (length l.l ≡ 64) × Weighed l.s l.at l.l l.k
