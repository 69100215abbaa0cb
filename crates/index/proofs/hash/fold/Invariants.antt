-- `index::hash::fold` meets its contract. The invariant: the fours before the loop's index are folded.
use Rattle.std.proofs.Common.{◌≡◌}
use Rattle.index.specs.Hash.{fours}
use Rattle.index.proofs.hash.fold.Given as goal

abbrev pub invariant-loop-four : goal.invariant-loop-four
invariant-loop-four l = l.h ≡ fours l.name l.four-index
