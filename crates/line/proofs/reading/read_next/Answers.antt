-- `line::reading::read_next` meets its contract: what is told of the line before it is read is true of it.
use mathlib.Core.Path.{sym, ◌∙◌}
use native.Mathlib.Omega.{arith}
use Rattle.fields.specs.Part.{part_from}
use Rattle.scan.proofs.Nexts.{LineIs, line_is, rest_is}
use Rattle.line.proofs.Lines.{next_over, next_read}
use Rattle.line.proofs.reading.read_next.Goals as goal

pub returns-in_err-next : goal.returns-in_err-next
returns-in_err-next c = c.from_residual.ensures ∙ next_over _ _ _ (rest_is _ _ _ (sym c.next_line.ensures ∙ c.in_err-next.was))

pub slice_bounds-read_at-count : goal.slice_bounds-read_at-count
slice_bounds-read_at-count c =
    let t : LineIs c.args.whole c.args.s.now c.args.at c.in_ok-next.next = line_is _ _ _ _ (sym c.next_line.ensures ∙ c.in_ok-next.was) in
    omega arith

pub slice_bounds-read_at-start : goal.slice_bounds-read_at-start
slice_bounds-read_at-start c =
    let t : LineIs c.args.whole c.args.s.now c.args.at c.in_ok-next.next = line_is _ _ _ _ (sym c.next_line.ensures ∙ c.in_ok-next.was) in
    omega arith

pub slice_bounds-read_at-end : goal.slice_bounds-read_at-end
slice_bounds-read_at-end c =
    let t : LineIs c.args.whole c.args.s.now c.args.at c.in_ok-next.next = line_is _ _ _ _ (sym c.next_line.ensures ∙ c.in_ok-next.was) in
    omega arith

pub read_at-reading-requires : goal.read_at-reading-requires
unfolding part_from
read_at-reading-requires c =
    let t : LineIs c.args.whole c.args.s.now c.args.at c.in_ok-next.next = line_is _ _ _ _ (sym c.next_line.ensures ∙ c.in_ok-next.was) in
    (t.commas_told, λ p. sym t.plain_told ∙ p)

pub returns : goal.returns
unfolding part_from
returns c =
    let t : LineIs c.args.whole c.args.s.now c.args.at c.in_ok-next.next = line_is _ _ _ _ (sym c.next_line.ensures ∙ c.in_ok-next.was) in
    next_read _ _ _ _ _ _ _ t.next c.read_at-reading.ensures t.commas_told
