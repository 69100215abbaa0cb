-- Each read goes to the end of the list.
use Rattle.std.proofs.Common.{rules, sym}
use Rattle.input.proofs.Sizes.{buffer_sized}
use Rattle.input.proofs.Grown.{none_yet, came_enough, came_more}
use Rattle.input.proofs.reads.read_to_end.Goals as goal

pub loop-total-init : goal.loop-total-init
loop-total-init g c = (search rules, search rules, search rules, search rules, search rules, none_yet _)

pub one_read-requires : goal.one_read-requires
one_read-requires g c = let e = buffer_sized _ _ c.requires in search rules

pub loop-total-preserved : goal.loop-total-preserved
loop-total-preserved g c =
    let m = came_more _ _ c.loop-total.invariant.5 _ _ _ _ c.in_ok-step.ensures c.in-Some.is in
    (m.0, search rules, search rules, search rules, search rules, m.1)

pub returns-in_default : goal.returns-in_default
returns-in_default g c = record { number = sym c.requires; leaves = came_enough _ _ c.loop-total.invariant.5 _ _ _ _ c.in_ok-step.ensures c.in_default.is }
