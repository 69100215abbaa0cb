use mathlib.Core.Path.{sym, ap, ◌∙◌}
use Rattle.paper.specs.Rows.{process_charge}
use Rattle.adding.specs.RowCode.{charges_make}
use Rattle.paper.proofs.RowTests.{charge_small}
use Rattle.adding.proofs.RowWalks.{charges_end, charge_bad, charge_turn, rows_next}
use Rattle.adding.proofs.rows.charges_make.Goals as goal

pub returns-in_default : goal.returns-in_default
returns-in_default c =
    sym
    (c.loop-p.invariant
    ∙ ap (charges_make c.loop-p.left) (rows_next _ _ _ c.loop-p-test.true)
    ∙ charge_bad _ _ _ (ap (process_charge c.loop-p.left) (sym c.line_at.ensures) ∙ sym c.in_default.ensures))

pub overflow_sub-left : goal.overflow_sub-left
overflow_sub-left c = charge_small _ _ _ (sym c.in-Some.ensures)

pub loop-p-preserved : goal.loop-p-preserved
loop-p-preserved c =
    c.loop-p.invariant
    ∙ ap (charges_make c.loop-p.left) (rows_next _ _ _ c.loop-p-test.true)
    ∙ charge_turn _ _ _ _ (ap (process_charge c.loop-p.left) (sym c.line_at.ensures) ∙ sym c.in-Some.ensures)

pub returns : goal.returns
returns c = sym (c.loop-p.invariant ∙ charges_end _ _ _ _ c.loop-p-test.false)
