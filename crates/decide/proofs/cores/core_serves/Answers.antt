-- `decide::cores::core_serves` meets its contract: at each exit the tests passed say which case of the definition it is.
use borrow.Author.Tests.{eq-eqb, ne_eqb}
use Rattle.rules.specs.Core.{takes_core}
use Rattle.decide.specs.PlanCode.{core_serves}
use Rattle.decide.proofs.cores.core_serves.Goals as goal

pub returns-then-class-eq-TAKES_CORE : goal.returns-then-class-eq-TAKES_CORE
unfolding core_serves
returns-then-class-eq-TAKES_CORE c = rw (eq-eqb _ takes_core c.if-class-eq-TAKES_CORE.true)

pub returns-then-standing-eq0 : goal.returns-then-standing-eq0
unfolding core_serves
returns-then-standing-eq0 c = rw (ne_eqb _ takes_core c.if-class-eq-TAKES_CORE.false, eq-eqb _ 0 c.if-standing-eq0.true)

pub returns : goal.returns
unfolding core_serves
returns c = rw (ne_eqb _ takes_core c.if-class-eq-TAKES_CORE.false, ne_eqb _ 0 c.if-standing-eq0.false)
