-- `paper::line::word_count` meets its contract. The invariant: `k - 1` words stand before the index `at`.
use Prim.Native.Nat.{◌≤◌, ◌-◌, ◌+◌}
use lib.ListN.{length}
use Rattle.text.proofs.PiecesFrom.{From}
use Rattle.paper.proofs.line.word_count.Given as goal

abbrev pub invariant-loop-n : goal.invariant-loop-n
invariant-loop-n l = (1 ≤ l.k) × (l.k ≤ l.at + 1) × (l.at ≤ length l.line) × From 32 l.line (l.k - 1) l.at

abbrev pub decreases-loop-n : goal.decreases-loop-n
decreases-loop-n l = length l.line - l.at
