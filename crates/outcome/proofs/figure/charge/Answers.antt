use Rattle.std.proofs.Common.{◌≡◌, sym, refl, ◌∙◌, add-one, arith}
use Rattle.tables.specs.Entry.{name_count}
use Rattle.sheet.specs.Figure.{charge_to, charge_in}
use Rattle.outcome.proofs.figure.charge.Goals as goal
use Rattle.outcome.proofs.figure.charge.Goals.{then-holds_core, else-holds_core}

pub loop-k-init : goal.loop-k-init
unfolding charge_to
loop-k-init c = refl

pub loop-k-preserved : goal.loop-k-preserved
unfolding charge_to
loop-k-preserved c =
    elim c.if-holds_core.branch [
      | then-holds_core w ↦ rw (add-one, sym c.holds_core.ensures ∙ w.if-holds_core.true, ← c.loop-k.invariant, ← w.open_ticks-sum.ensures) w.sum-is
      | else-holds_core w ↦ rw (add-one, sym c.holds_core.ensures ∙ w.if-holds_core.false) (w.sum-is ∙ c.loop-k.invariant)
    ]

pub returns : goal.returns
unfolding charge_in
returns c =
    let e : c.loop-k.k ≡ name_count c.args.nums.now = omega arith in
    c.loop-k.invariant ∙ rw e
