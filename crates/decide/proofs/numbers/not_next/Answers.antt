-- `decide::numbers::not_next` meets its contract: only an event that numbers its instance has a number that is not the next.
use Rattle.std.proofs.Common.{sym, ◌∙◌}
use mathlib.Core.Bool.{not}
use mathlib.Core.Path.{ap}
use Rattle.tables.proofs.Chains.{pass, stop}
use Rattle.decide.specs.PlanCode.{not_next_in}
use Rattle.decide.proofs.numbers.not_next.Goals as goal

pub returns-then-not-numbers_instance : goal.returns-then-not-numbers_instance
unfolding not_next_in
returns-then-not-numbers_instance c = stop _ (sym c.numbers_instance.ensures ∙ c.if-not-numbers_instance.true)

pub returns : goal.returns
unfolding not_next_in
returns c = pass (sym c.numbers_instance.ensures ∙ c.if-not-numbers_instance.false) (ap not c.is_next.ensures)
