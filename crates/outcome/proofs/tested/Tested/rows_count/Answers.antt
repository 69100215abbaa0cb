use Rattle.std.proofs.Common.{◌≡◌, sym, refl, ◌∙◌, arith}
use Rattle.tables.specs.Entry.{name_count}
use Rattle.sheet.specs.Sheet.{rows_to, rows_in}
use Rattle.sheet.proofs.Rows.{count_in, row_out}
use Rattle.sheet.proofs.Short.{rows_few}
use Rattle.outcome.proofs.tested.Tested.rows_count.Goals as goal
use Rattle.outcome.proofs.tested.Tested.rows_count.Goals.{then-in_section, else-in_section}

pub loop-i-init : goal.loop-i-init
unfolding rows_to
loop-i-init c = refl

pub overflow_add-count : goal.overflow_add-count
overflow_add-count c =
    let a = c.args in
    omega (arith, rows_few a.section a.self.names.now a.self.nums.now a.self.ticks.now c.loop-i.i)

pub loop-i-preserved : goal.loop-i-preserved
loop-i-preserved c =
    let inv = c.loop-i.invariant in
    let a = c.args in
    let e = sym c.in_section.ensures in
    elim c.if-in_section.branch [
      | then-in_section w ↦ w.count-is ∙ rw inv (sym (count_in _ _ _ _ _ (e ∙ w.if-in_section.true)))
      | else-in_section w ↦ rw (row_out a.section a.self.names.now a.self.nums.now a.self.ticks.now c.loop-i.i (e ∙ w.if-in_section.false)) (w.count-is ∙ inv)
    ]

pub returns : goal.returns
unfolding rows_in
returns c =
    let e : c.loop-i.i ≡ name_count c.args.self.nums.now = omega arith in
    c.loop-i.invariant ∙ rw e
