-- `adding::add::own_refusal` meets its contract: the tests in their order.
use borrow.Author.Tests.{lt-ltb, le-ltb}
use Rattle.adding.specs.AddCode.{own_refusal}
use Rattle.adding.proofs.add.own_refusal.Goals as goal

pub returns-then-cores-processes : goal.returns-then-cores-processes
unfolding own_refusal
returns-then-cores-processes c = rw c.if-cores-processes.true

pub returns-then-span-gt-MAX_TIME : goal.returns-then-span-gt-MAX_TIME
unfolding own_refusal
returns-then-span-gt-MAX_TIME c = rw (c.if-cores-processes.false, lt-ltb _ _ c.if-span-gt-MAX_TIME.true)

pub returns : goal.returns
unfolding own_refusal
returns c = rw (c.if-cores-processes.false, le-ltb _ _ c.if-span-gt-MAX_TIME.false)
