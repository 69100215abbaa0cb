use Rattle.std.proofs.Common.{◌≡◌, sym, refl, ◌∙◌, arith}
use Rattle.bill.specs.Text.{rows_text}
use Rattle.tables.specs.Entry.{name_count}
use Rattle.ranges.proofs.Valid.{valid}
use Rattle.sheet.specs.Sheet.{rows_to, rows_in}
use Rattle.sheet.proofs.Rows.{length_in, row_out}
use Rattle.sheet.proofs.Short.{row_short, rows_short}
use Rattle.outcome.proofs.tested.Tested.rows_length.Goals as goal
use Rattle.outcome.proofs.tested.Tested.rows_length.Goals.{then-in_section, else-in_section}

pub loop-i-init : goal.loop-i-init
unfolding rows_to rows_text
loop-i-init c = refl

pub overflow_add-sum : goal.overflow_add-sum
overflow_add-sum c =
    let v = valid _ _ _ c.args.self.in_range in
    let row = row_short v c.args.section c.loop-i.i c.loop-i-test.true in
    let rows = rows_short v c.args.section c.loop-i.i c.loop-i.auto.i-end in
    omega (arith, row, rows)

pub loop-i-preserved : goal.loop-i-preserved
loop-i-preserved c =
    let inv = c.loop-i.invariant in
    let a = c.args in
    let e = sym c.in_section.ensures in
    elim c.if-in_section.branch [
      | then-in_section w ↦ w.sum-is ∙ rw (inv, w.row_length-sum.ensures) (sym (length_in _ _ _ _ _ (e ∙ w.if-in_section.true)))
      | else-in_section w ↦ rw (row_out a.section a.self.names.now a.self.nums.now a.self.ticks.now c.loop-i.i (e ∙ w.if-in_section.false)) (w.sum-is ∙ inv)
    ]

pub returns : goal.returns
unfolding rows_in
returns c =
    let e : c.loop-i.i ≡ name_count c.args.self.nums.now = omega arith in
    c.loop-i.invariant ∙ rw e
