use mathlib.Core.Path.{refl, sym, ap, ◌∙◌}
use native.Mathlib.Numerals.{add-one}
use native.Mathlib.Omega.{arith}
use lib.Dec.{eqb}
use Rattle.marks.proofs.Firsts.{first_hit, first_miss, first_end}
use Rattle.tables.specs.Entry.{place_rows}
use Rattle.index.specs.Index.{entry}
use Rattle.index.proofs.Right.{place_lt}
use Rattle.ranges.specs.IndexCode.{vacant, holds_row, row_placed}
use Rattle.ranges.proofs.placed.row_placed.Goals as goal

pub loop-d-init : goal.loop-d-init
unfolding row_placed
loop-d-init c = refl

pub bounds-index-home : goal.bounds-index-home
bounds-index-home c = omega (arith, place_lt c.args.home c.loop-d.d)

pub returns-then-e-r : goal.returns-then-e-r
unfolding vacant
returns-then-e-r c =
    let a = c.args in
    ap (eqb (entry a.index.now a.home c.loop-d.d)) (add-one a.r)
    ∙ sym (c.loop-d.invariant ∙ ap (holds_row _ _ _) (first_hit _ c.loop-d.d place_rows c.loop-d-test.true c.if-e-r.true))

pub loop-d-preserved : goal.loop-d-preserved
unfolding vacant
loop-d-preserved c = c.loop-d.invariant ∙ ap (holds_row _ _ _) (first_miss _ c.loop-d.d place_rows c.loop-d-test.true c.if-e-r.false)

pub returns : goal.returns
returns c = sym (c.loop-d.invariant ∙ ap (holds_row _ _ _) (first_end _ _ _ c.loop-d-test.false))
