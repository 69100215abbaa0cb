-- `judge::feed::lines_in` meets its contract. The loop's invariant: the lines from the index on give what all lines give. The measure is what is
-- left of the chunk.
use Rattle.std.proofs.Common.{◌-◌, length}
use Rattle.judge.specs.Feed.{tables}
use Rattle.judge.proofs.Traces.{Going}
use Rattle.judge.proofs.feed.lines_in.Given as goal

abbrev pub invariant-loop-at : goal.invariant-loop-at
invariant-loop-at l = Going l.whole (tables l.initial.names l.initial.nums l.initial.ticks) (tables l.names l.nums l.ticks) l.s l.at

abbrev pub decreases-loop-at : goal.decreases-loop-at
decreases-loop-at l = length l.s - l.at
