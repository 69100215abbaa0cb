-- A trace that is told lies inside, so the loop goes on behind it.
use Rattle.std.proofs.Common.{arith, rules}
use Rattle.bundle.proofs.Apart.{trace_inside, all_remain, one_less, broken_here, none_remain}
use Rattle.bundle.proofs.container.say_traces.Goals as goal

pub loop-at-init : goal.loop-at-init
loop-at-init c = (search rules, search rules, all_remain _)

pub returns-in_default : goal.returns-in_default
returns-in_default c = broken_here c.loop-at.invariant.2 c.loop-at-test.true c.entry_from.ensures c.in_default.is

pub say_entry-requires : goal.say_entry-requires
say_entry-requires c = trace_inside _ _ c.entry_from.ensures c.in-Some.is

pub overflow_add-at : goal.overflow_add-at
overflow_add-at c = omega (arith, trace_inside _ _ c.entry_from.ensures c.in-Some.is)

pub overflow_add-at-in-loop-at : goal.overflow_add-at-in-loop-at
overflow_add-at-in-loop-at c = omega (arith, trace_inside _ _ c.entry_from.ensures c.in-Some.is)

pub loop-at-smaller : goal.loop-at-smaller
loop-at-smaller c = omega (arith, trace_inside _ _ c.entry_from.ensures c.in-Some.is)

pub loop-at-preserved : goal.loop-at-preserved
loop-at-preserved c =
    let inside = trace_inside _ _ c.entry_from.ensures c.in-Some.is in
    (omega arith, omega arith, one_less c.loop-at.invariant.2 c.loop-at-test.true c.entry_from.ensures c.in-Some.is)

pub returns : goal.returns
returns c = none_remain c.loop-at.invariant.2 (search rules)
