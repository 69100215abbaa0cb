-- `judge::feed::next_in` meets its contract: the line that is read is the next one, and is judged.
use Rattle.std.proofs.Common.{sym, ◌∙◌, arith}
use Rattle.fields.specs.Part.{part_from}
use Rattle.line.proofs.Lines.{line_next, over_next}
use Rattle.judge.proofs.Feeds.{none_next, judged_next}
use Rattle.judge.proofs.feed.next_in.Goals as goal

pub returns-in_default : goal.returns-in_default
returns-in_default c = none_next _ _ _ (over_next _ _ _ (sym c.read_next-next.ensures ∙ c.in_default.is))

pub slice_bounds-line_in-count : goal.slice_bounds-line_in-count
slice_bounds-line_in-count c = omega (arith, line_next _ _ _ _ (sym c.read_next-next.ensures ∙ c.in-Some.is))

pub slice_bounds-line_in-start : goal.slice_bounds-line_in-start
slice_bounds-line_in-start c = omega (arith, line_next _ _ _ _ (sym c.read_next-next.ensures ∙ c.in-Some.is))

pub slice_bounds-line_in-end : goal.slice_bounds-line_in-end
slice_bounds-line_in-end c = omega (arith, line_next _ _ _ _ (sym c.read_next-next.ensures ∙ c.in-Some.is))

pub line_in-answer-requires : goal.line_in-answer-requires
unfolding part_from
line_in-answer-requires c = (line_next _ _ _ _ (sym c.read_next-next.ensures ∙ c.in-Some.is)).said

pub returns : goal.returns
unfolding part_from
returns c = judged_next _ _ _ _ _ (line_next _ _ _ _ (sym c.read_next-next.ensures ∙ c.in-Some.is)).next c.line_in-answer.ensures
