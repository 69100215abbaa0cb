-- `scan::ahead::by_bytes` meets its contract: what the bytes of the line found tell.
use Rattle.std.proofs.Common.{sym, ◌∙◌, arith}
use Rattle.fields.specs.Part.{part_from}
use Rattle.scan.specs.Ahead.{ahead_of}
use Rattle.scan.proofs.Nexts.{line_inside}
use Rattle.scan.proofs.ahead.by_bytes.Goals as goal

pub returns-in_err-end : goal.returns-in_err-end
unfolding ahead_of
returns-in_err-end c = rw (c.from_residual.ensures, sym c.next_at.ensures ∙ c.in_err-end.was)

pub slice_bounds-line-count : goal.slice_bounds-line-count
slice_bounds-line-count c = omega (arith, line_inside c.args.s.now c.args.at _ _ c.args.whole (sym c.next_at.ensures ∙ c.in_ok-end.was))

pub slice_bounds-line-start : goal.slice_bounds-line-start
slice_bounds-line-start c = omega (arith, line_inside c.args.s.now c.args.at _ _ c.args.whole (sym c.next_at.ensures ∙ c.in_ok-end.was))

pub slice_bounds-line-end : goal.slice_bounds-line-end
slice_bounds-line-end c = omega (arith, line_inside c.args.s.now c.args.at _ _ c.args.whole (sym c.next_at.ensures ∙ c.in_ok-end.was))

pub returns : goal.returns
unfolding ahead_of part_from
returns c = rw (sym c.next_at.ensures ∙ c.in_ok-end.was, c.all_plain.ensures, c.split.ensures)
