use mathlib.Core.Path.{sym, ap, ◌∙◌}
use Prim.Native.Nat.{◌≤◌}
use native.Mathlib.Omega.{arith}
use borrow.Author.Rules.{rules}
use Rattle.paper.specs.Rows.{core_held}
use Rattle.paper.proofs.RowTests.{held_small}
use Rattle.adding.proofs.RowWalks.{held_with, held_start, held_bad, held_turn, held_end, rows_next}
use Rattle.adding.proofs.rows.all_held.Goals as goal

pub loop-p-init : goal.loop-p-init
loop-p-init c = (omega arith, held_start _ _)

pub returns-in_err-total : goal.returns-in_err-total
returns-in_err-total c =
    c.from_residual.ensures
    ∙ sym
    (c.loop-p.invariant.1
    ∙ ap (held_with c.args.span c.loop-p.total) (rows_next _ _ _ c.loop-p-test.true)
    ∙ held_bad _ _ _ _ (ap (core_held c.args.span) (sym c.line_at.ensures) ∙ sym c.in_err-total.ensures))

pub overflow_add-total : goal.overflow_add-total
overflow_add-total c =
    let s : c.in_ok-total.field-0 ≤ c.args.span = held_small _ _ _ (sym c.in_ok-total.ensures) in search rules

pub loop-p-preserved : goal.loop-p-preserved
loop-p-preserved c =
    let s : c.in_ok-total.field-0 ≤ c.args.span = held_small _ _ _ (sym c.in_ok-total.ensures) in (
      omega arith,
      c.loop-p.invariant.1
          ∙ ap (held_with c.args.span c.loop-p.total) (rows_next _ _ _ c.loop-p-test.true)
          ∙ held_turn _ _ _ _ _ (ap (core_held c.args.span) (sym c.line_at.ensures) ∙ sym c.in_ok-total.ensures),
    )

pub returns : goal.returns
returns c = sym (c.loop-p.invariant.1 ∙ held_end _ _ _ _ _ c.loop-p-test.false)
