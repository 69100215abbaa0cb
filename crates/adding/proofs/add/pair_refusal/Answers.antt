-- `adding::add::pair_refusal` meets its contract: the scales, and then the two ways in which a name may be a core in one and a process in the other.
use mathlib.Core.Path.{sym, ◌∙◌}
use Rattle.adding.proofs.Pairs.{scales_differ, clash_here, clash_there, paired}
use Rattle.adding.proofs.add.pair_refusal.Goals as goal
use Rattle.adding.proofs.add.pair_refusal.Goals.{then-cores_met-via-then-cores_met, then-cores_met-via-else-cores_met+then-cores_met-2}

pub returns-then-x-y : goal.returns-then-x-y
returns-then-x-y c = scales_differ c.requires c.if-x-y.true

pub returns-then-cores_met : goal.returns-then-cores_met
returns-then-cores_met c =
    elim c.then-cores_met.branch [
      | then-cores_met-via-then-cores_met w ↦ clash_here c.requires c.if-x-y.false c.cores_met.ensures w.if-cores_met.true
      | then-cores_met-via-else-cores_met+then-cores_met-2 w ↦ clash_there c.requires c.if-x-y.false w.cores_met-else-cores_met.ensures w.if-cores_met-2.true (sym c.cores_met.ensures ∙ w.if-cores_met.false)
    ]

pub returns : goal.returns
returns c = paired c.requires c.if-x-y.false (sym c.cores_met.ensures ∙ c.if-cores_met.false) (sym c.cores_met-else-cores_met.ensures ∙ c.if-cores_met-2.false)
