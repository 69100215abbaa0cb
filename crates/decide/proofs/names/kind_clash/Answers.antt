-- `decide::names::kind_clash` meets its contract: a name without a kind clashes with none.
use borrow.Author.Tests.{eq-eqb, ne_eqb}
use Rattle.decide.specs.PlanCode.{kind_clash}
use Rattle.decide.proofs.names.kind_clash.Goals as goal

pub returns-then-tracked_as-eq0 : goal.returns-then-tracked_as-eq0
unfolding kind_clash
returns-then-tracked_as-eq0 c = rw (eq-eqb _ 0 c.if-tracked_as-eq0.true)

pub returns : goal.returns
unfolding kind_clash
returns c = rw (ne_eqb _ 0 c.if-tracked_as-eq0.false)
