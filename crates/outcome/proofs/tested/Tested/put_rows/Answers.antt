use Rattle.std.proofs.Common.{◌≡◌, sym, ◌∙◌, arith}
use Rattle.line.proofs.Texts.{put_none}
use Rattle.bill.specs.Text.{rows_text}
use Rattle.tables.specs.Entry.{name_count}
use Rattle.sheet.specs.Sheet.{rows_to, rows_in}
use Rattle.sheet.proofs.Rows.{row_out, line_room, line_put}
use Rattle.outcome.proofs.tested.Tested.put_rows.Goals as goal
use Rattle.outcome.proofs.tested.Tested.put_rows.Goals.{then-in_section, else-in_section}

pub loop-i-init : goal.loop-i-init
unfolding rows_to rows_text
loop-i-init c = sym (put_none _ _ (omega arith))

pub put_row-next-requires : goal.put_row-next-requires
put_row-next-requires c =
    let e = sym c.in_section.ensures ∙ c.if-in_section.true in
    (c.loop-i-test.true, line_room _ _ _ _ _ _ _ e c.loop-i-test.true c.requires c.loop-i.invariant)

pub loop-i-preserved : goal.loop-i-preserved
loop-i-preserved c =
    let inv = c.loop-i.invariant in
    let a = c.args in
    let e = sym c.in_section.ensures in
    elim c.if-in_section.branch [
      | then-in_section w ↦
          rw (w.next-is, w.out-is) (line_put _ _ _ _ _ _ _ (e ∙ w.if-in_section.true) c.loop-i-test.true c.requires inv w.put_row-next.ensures)
      | else-in_section w ↦ rw (w.next-is, w.out-is, row_out a.section a.self.names.now a.self.nums.now a.self.ticks.now c.loop-i.i (e ∙ w.if-in_section.false)) inv
    ]

pub returns : goal.returns
unfolding rows_in
returns c =
    let e : c.loop-i.i ≡ name_count c.args.self.nums.now = omega arith in
    c.loop-i.invariant ∙ rw e
