-- `scan::ahead::next_at` meets its contract: the next line; or the index is past the end, or all from it on is the line.
use Rattle.std.proofs.Common.{le-leb}
use borrow.Author.Tests.{lt-leb}
use Rattle.scan.specs.Ahead.{line_from}
use Rattle.scan.proofs.ahead.next_at.Goals as goal

pub returns-then-not-whole : goal.returns-then-not-whole
unfolding line_from
returns-then-not-whole c = rw c.if-not-whole.true c.line_from.ensures

pub returns-then-n-at : goal.returns-then-n-at
unfolding line_from
returns-then-n-at c = rw (c.if-not-whole.false, lt-leb _ _ c.if-n-at.true)

pub returns : goal.returns
unfolding line_from
returns c = rw (c.if-not-whole.false, le-leb _ _ c.if-n-at.false)
