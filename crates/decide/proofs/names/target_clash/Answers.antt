-- `decide::names::target_clash` meets its contract: only a tracked target can clash.
use Rattle.decide.specs.PlanCode.{target_clash_in}
use Rattle.decide.proofs.names.target_clash.Goals as goal

pub returns-then-not-tracked : goal.returns-then-not-tracked
unfolding target_clash_in
returns-then-not-tracked c = let t = c.tracked in rw (← t.ensures, c.if-not-tracked.true)

pub returns : goal.returns
unfolding target_clash_in
returns c =
    let t = c.tracked in
    rw (← t.ensures, c.if-not-tracked.false, ← c.kind_in.ensures) c.kind_clash.ensures
