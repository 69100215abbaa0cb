-- `paper::line::line_at` meets its contract: from past the end there is nothing, and otherwise the line ends where the next end of line is found.
use mathlib.Core.Path.{sym}
use borrow.Author.Rules.{rules}
use Rattle.text.proofs.Finds.{found_within}
use Rattle.paper.proofs.LineWalk.{line_past, line_here}
use Rattle.paper.proofs.line.line_at.Goals as goal

pub returns-then-text-p : goal.returns-then-text-p
returns-then-text-p c = sym (line_past _ _ c.if-text-p.true)

pub slice_bounds-result-count-2 : goal.slice_bounds-result-count-2
slice_bounds-result-count-2 c = (found_within _ _ _ _ c.find-e.ensures c.if-text-p.false).0

pub slice_bounds-result-start-2 : goal.slice_bounds-result-start-2
slice_bounds-result-start-2 c = let h = found_within 10 c.args.text.now c.args.p c.find-e.result c.find-e.ensures c.if-text-p.false in search rules

pub slice_bounds-result-end-2 : goal.slice_bounds-result-end-2
slice_bounds-result-end-2 c = let h = found_within 10 c.args.text.now c.args.p c.find-e.result c.find-e.ensures c.if-text-p.false in search rules

pub returns : goal.returns
returns c = rw c.find-e.ensures (sym (line_here _ _))
