-- `walk::lines::next_start` meets its contract: what `find` returned is past the end, or the byte 10 before the place that it answers.
use Rattle.walk.proofs.Nexts.{found_none, found_some}
use Rattle.walk.proofs.lines.next_start.Goals as goal

pub returns-then-s-n : goal.returns-then-s-n
returns-then-s-n c = found_none _ _ _ c.find-n.ensures c.if-s-n.true

pub returns : goal.returns
returns c = found_some _ _ _ c.find-n.ensures c.if-s-n.false
