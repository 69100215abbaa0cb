-- `decide::plan::decide_steps` meets its contract: the chart first, then the tests in the order of their numbers.
use Rattle.decide.specs.PlanCode.{steps_plan}
use Rattle.decide.proofs.plan.decide_steps.Goals as goal

pub returns-in_default : goal.returns-in_default
unfolding steps_plan
returns-in_default c = rw (← c.state_in.ensures, ← c.chart_step-m.ensures, c.in_default.is)

pub returns-then-never_activated : goal.returns-then-never_activated
unfolding steps_plan
returns-then-never_activated c = rw (← c.state_in.ensures, ← c.chart_step-m.ensures, c.in-Some.is, ← c.never_activated.ensures, c.if-never_activated.true)

pub returns-then-not_next : goal.returns-then-not_next
unfolding steps_plan
returns-then-not_next c = rw (← c.state_in.ensures, ← c.chart_step-m.ensures, c.in-Some.is, ← c.never_activated.ensures, c.if-never_activated.false, ← c.not_next.ensures, c.if-not_next.true)

pub returns-then-core_broken : goal.returns-then-core_broken
unfolding steps_plan
returns-then-core_broken c =
    rw (
      ← c.state_in.ensures,
      ← c.chart_step-m.ensures,
      c.in-Some.is,
      ← c.never_activated.ensures,
      c.if-never_activated.false,
      ← c.not_next.ensures,
      c.if-not_next.false,
      ← c.core_broken.ensures,
      c.if-core_broken.true,
    )

pub returns-then-count_broken : goal.returns-then-count_broken
unfolding steps_plan
returns-then-count_broken c =
    rw (
      ← c.state_in.ensures,
      ← c.chart_step-m.ensures,
      c.in-Some.is,
      ← c.never_activated.ensures,
      c.if-never_activated.false,
      ← c.not_next.ensures,
      c.if-not_next.false,
      ← c.core_broken.ensures,
      c.if-core_broken.false,
      ← c.count_broken.ensures,
      c.if-count_broken.true,
    )

pub returns : goal.returns
unfolding steps_plan
returns c =
    rw (
      ← c.state_in.ensures,
      ← c.chart_step-m.ensures,
      c.in-Some.is,
      ← c.never_activated.ensures,
      c.if-never_activated.false,
      ← c.not_next.ensures,
      c.if-not_next.false,
      ← c.core_broken.ensures,
      c.if-core_broken.false,
      ← c.count_broken.ensures,
      c.if-count_broken.false,
    )
