-- `paper::line::word` meets its contract. The invariant: as many words as were passed stand before the index `at`.
use Prim.Native.Nat.{◌≤◌}
use lib.ListN.{length}
use Rattle.text.proofs.PiecesFrom.{From}
use Rattle.paper.proofs.line.word.Given as goal

abbrev pub invariant-loop : goal.invariant-loop
invariant-loop l = (l.at ≤ length l.line) × From 32 l.line l.counter l.at
