-- `ranges::range::holder_ok` meets its contract: at each exit the tests passed say what the definition's tests say.
use borrow.Author.Tests.{lt-ltb, le-ltb}
use Rattle.tables.proofs.Chains.{pass, stop}
use Rattle.ranges.specs.Range.{holder_ok}
use Rattle.ranges.proofs.range.holder_ok.Goals as goal

pub returns-then-nums-p : goal.returns-then-nums-p
unfolding holder_ok
returns-then-nums-p c = stop _ (le-ltb _ _ c.if-nums-p.true)

pub returns : goal.returns
unfolding holder_ok
returns c = pass (lt-ltb _ _ c.if-nums-p.false) c.is_process.ensures
