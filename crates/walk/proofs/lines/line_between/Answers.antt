-- `walk::lines::line_between` meets its contract: the second place is not past the first, is past the end of the chunk, or a line's bytes lie
-- between.
use native.Mathlib.Omega.{arith}
use Rattle.walk.proofs.Nexts.{between_back, between_past, between_some, between_ends}
use Rattle.walk.proofs.lines.line_between.Goals as goal

pub returns-then-start-at : goal.returns-then-start-at
returns-then-start-at c = between_back _ _ _ c.if-start-at.true

pub returns-then-s-start : goal.returns-then-s-start
returns-then-s-start c = between_past _ _ _ c.if-s-start.true

pub overflow_add-result : goal.overflow_add-result
overflow_add-result c = let e = between_ends _ _ _ _ c.if-start-at.false c.if-s-start.false c.text_length-n.ensures in omega arith

pub returns : goal.returns
returns c = between_some _ _ _ _ c.if-start-at.false c.if-s-start.false c.text_length-n.ensures
