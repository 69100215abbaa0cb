use Rattle.std.proofs.Common.{arith}
use Rattle.judge.proofs.Traces.{loop-ends, loop-goes}
use Rattle.judge.proofs.feed.lines_in.Goals as goal

pub returns-then-whole-fed : goal.returns-then-whole-fed
returns-then-whole-fed c = loop-ends _ c.loop-at.invariant c.next_in-fed.ensures c.if-whole-fed.true

pub loop-at-smaller : goal.loop-at-smaller
loop-at-smaller c = omega (arith, loop-goes _ c.loop-at.invariant c.next_in-fed.ensures c.if-whole-fed.false)

pub loop-at-preserved : goal.loop-at-preserved
loop-at-preserved c = (loop-goes _ c.loop-at.invariant c.next_in-fed.ensures c.if-whole-fed.false).1
