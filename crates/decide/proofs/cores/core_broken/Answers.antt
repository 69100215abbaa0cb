-- `decide::cores::core_broken` meets its contract: a line of no class breaks nothing, and any other by what is looked up for it.
use borrow.Author.Tests.{eq-eqb, ne_eqb}
use Rattle.rules.specs.Core.{no_core}
use Rattle.decide.specs.PlanCode.{core_broken_in}
use Rattle.decide.proofs.cores.core_broken.Goals as goal

pub returns-then-s-eq-NO_CORE : goal.returns-then-s-eq-NO_CORE
unfolding core_broken_in
returns-then-s-eq-NO_CORE c = rw (eq-eqb _ no_core c.if-s-eq-NO_CORE.true)

pub returns : goal.returns
unfolding core_broken_in
returns c =
    rw (
      ne_eqb _ no_core c.if-s-eq-NO_CORE.false,
      c.core_serves.ensures,
      c.is_holder-holder.ensures,
      c.number_in.ensures,
      c.standing_in-standing.ensures,
      c.state_in-first.ensures,
    )
