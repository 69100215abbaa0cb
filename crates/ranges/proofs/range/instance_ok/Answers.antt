-- `ranges::range::instance_ok` meets its contract: at each exit the tests passed say what the definition's tests say.
use borrow.Author.Tests.{lt-ltb, le-ltb}
use Rattle.tables.proofs.Chains.{pass, stop}
use Rattle.ranges.specs.Range.{instance_ok}
use Rattle.ranges.proofs.range.instance_ok.Goals as goal

pub returns-then-nums-owner : goal.returns-then-nums-owner
unfolding instance_ok
returns-then-nums-owner c = stop _ (le-ltb _ _ c.if-nums-owner.true)

pub returns : goal.returns
unfolding instance_ok
returns c = pass (lt-ltb _ _ c.if-nums-owner.false) c.state_ok.ensures
