-- `ranges::range::core_ok` meets its contract: below 2 the state is idle or none, and from 2 on it names a holder.
use borrow.Author.Tests.{lt-ltb, le-ltb}
use Rattle.ranges.specs.Range.{core_ok}
use Rattle.ranges.proofs.range.core_ok.Goals as goal

pub returns-then-standing-lt-HELD_FROM : goal.returns-then-standing-lt-HELD_FROM
unfolding core_ok
returns-then-standing-lt-HELD_FROM c = rw (lt-ltb _ 2 c.if-standing-lt-HELD_FROM.true)

pub returns : goal.returns
unfolding core_ok
returns c = rw (le-ltb _ 2 c.if-standing-lt-HELD_FROM.false) c.holder_ok.ensures
