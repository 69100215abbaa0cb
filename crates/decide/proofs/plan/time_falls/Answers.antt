-- `decide::plan::time_falls` meets its contract: no time falls before the first event line.
use borrow.Author.Tests.{eq-eqb, ne_eqb}
use Rattle.decide.specs.PlanCode.{time_falls_in}
use Rattle.decide.proofs.plan.time_falls.Goals as goal

pub returns-then-nums-eq0 : goal.returns-then-nums-eq0
unfolding time_falls_in
returns-then-nums-eq0 c = rw (eq-eqb _ 0 c.if-nums-eq0.true)

pub returns : goal.returns
unfolding time_falls_in
returns c = rw (ne_eqb _ 0 c.if-nums-eq0.false)
