-- `decide::names::source_clash` meets its contract: at each exit the tests passed say what the definition's tests say.
use borrow.Author.Tests.{eq-eqb, ne_eqb}
use Rattle.rules.specs.Core.{no_core}
use Rattle.decide.specs.PlanCode.{source_clash_in}
use Rattle.decide.proofs.names.source_clash.Goals as goal

pub returns-then-s-eq-NO_CORE : goal.returns-then-s-eq-NO_CORE
unfolding source_clash_in
returns-then-s-eq-NO_CORE c = rw (eq-eqb _ no_core c.if-s-eq-NO_CORE.true)

pub returns-then-kind_clash : goal.returns-then-kind_clash
unfolding source_clash_in
returns-then-kind_clash c = rw (ne_eqb _ no_core c.if-s-eq-NO_CORE.false, ← c.kind_in.ensures, ← c.kind_clash.ensures, c.if-kind_clash.true)

pub returns : goal.returns
unfolding source_clash_in
returns c = rw (ne_eqb _ no_core c.if-s-eq-NO_CORE.false, ← c.kind_in.ensures, ← c.kind_clash.ensures, c.if-kind_clash.false) c.same.ensures
