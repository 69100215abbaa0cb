-- Its tests are the definition's, and a header does not end before it begins.
use Rattle.std.proofs.Common.{arith, ◌∙◌}
use Rattle.text.proofs.Finds.{find_ge}
use Rattle.bundle.proofs.Apart.{no_end, no_length, too_short, other_byte, trace_there}
use Rattle.bundle.proofs.container.entry_from.Goals as goal

pub returns-then-s-end : goal.returns-then-s-end
returns-then-s-end c = no_end _ _ _ c.find-end.ensures c.if-s-end.true

pub slice_bounds-length_in-count : goal.slice_bounds-length_in-count
slice_bounds-length_in-count c = omega (arith, find_ge 10 c.args.s.now c.args.at)

pub slice_bounds-length_in-start : goal.slice_bounds-length_in-start
slice_bounds-length_in-start c = omega (arith, find_ge 10 c.args.s.now c.args.at)

pub returns-in_err-n : goal.returns-in_err-n
returns-in_err-n c = c.from_residual.ensures ∙ no_length _ _ _ c.find-end.ensures c.if-s-end.false c.length_in.ensures c.in_err-n.was

pub returns-then-rest-size : goal.returns-then-rest-size
returns-then-rest-size c = too_short _ _ _ c.find-end.ensures c.if-s-end.false c.length_in.ensures c.in_ok-n.was c.if-rest-size.true

pub returns-then-rest-size-ne10 : goal.returns-then-rest-size-ne10
returns-then-rest-size-ne10 c = other_byte _ _ _ c.find-end.ensures c.if-s-end.false c.length_in.ensures c.in_ok-n.was c.if-rest-size-ne10.true

pub returns : goal.returns
returns c = trace_there _ _ _ c.find-end.ensures c.if-s-end.false c.length_in.ensures c.in_ok-n.was c.if-rest-size-ne10.false
