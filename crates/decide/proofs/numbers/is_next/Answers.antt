-- `decide::numbers::is_next` meets its contract: of the first activation what the rows say of the number, and else the last number plus 1.
use Rattle.std.proofs.Common.{sym, ◌∙◌}
use borrow.Author.Tests.{not-true, not-false}
use Rattle.decide.specs.PlanCode.{is_next_in}
use Rattle.decide.proofs.numbers.is_next.Goals as goal

pub returns-then-not-numbered_in : goal.returns-then-not-numbered_in
unfolding is_next_in
returns-then-not-numbered_in c = rw (not-false _ (sym c.numbered_in.ensures ∙ c.if-not-numbered_in.true)) c.above_all.ensures

pub returns : goal.returns
unfolding is_next_in
returns c = rw (not-true _ (sym c.numbered_in.ensures ∙ c.if-not-numbered_in.false), ← c.number_in.ensures)
