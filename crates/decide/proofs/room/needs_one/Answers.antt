-- `decide::room::needs_one` meets its contract: at each exit the tests passed say what the definition's tests say.
use Rattle.decide.specs.PlanCode.{needs_one_in}
use Rattle.decide.proofs.room.needs_one.Goals as goal

pub returns-then-not-with_instances : goal.returns-then-not-with_instances
unfolding needs_one_in
returns-then-not-with_instances c = rw (← c.with_instances.ensures, c.if-not-with_instances.true)

pub returns-then-is_some : goal.returns-then-is_some
unfolding needs_one_in
returns-then-is_some c = rw (← c.with_instances.ensures, c.if-not-with_instances.false, ← c.is_some.ensures, c.if-is_some.true)

pub returns-then-exceeds_limit : goal.returns-then-exceeds_limit
unfolding needs_one_in
returns-then-exceeds_limit c =
    rw (
      ← c.with_instances.ensures,
      c.if-not-with_instances.false,
      ← c.is_some.ensures,
      c.if-is_some.false,
      ← c.exceeds_limit.ensures,
      c.if-exceeds_limit.true,
    )

pub returns-then-not-reaches_first : goal.returns-then-not-reaches_first
unfolding needs_one_in
returns-then-not-reaches_first c =
    rw (
      ← c.with_instances.ensures,
      c.if-not-with_instances.false,
      ← c.is_some.ensures,
      c.if-is_some.false,
      ← c.exceeds_limit.ensures,
      c.if-exceeds_limit.false,
      ← c.reaches_first.ensures,
      c.if-not-reaches_first.true,
    )

pub returns : goal.returns
unfolding needs_one_in
returns c =
    rw (
      ← c.with_instances.ensures,
      c.if-not-with_instances.false,
      ← c.is_some.ensures,
      c.if-is_some.false,
      ← c.exceeds_limit.ensures,
      c.if-exceeds_limit.false,
      ← c.reaches_first.ensures,
      c.if-not-reaches_first.false,
      ← c.numbers_instance.ensures,
      ← c.is_next.ensures,
    )
