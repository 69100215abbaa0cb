-- `decide::numbers::reaches_first` meets its contract: without a number none is reached, and else the first one is compared.
use Rattle.std.proofs.Common.{sym, ◌∙◌}
use Rattle.tables.proofs.Chains.{pass, stop}
use Rattle.decide.specs.PlanCode.{reaches_first}
use Rattle.decide.proofs.numbers.reaches_first.Goals as goal

pub returns-then-not-numbered_in : goal.returns-then-not-numbered_in
unfolding reaches_first
returns-then-not-numbered_in c = stop _ (sym c.numbered_in.ensures ∙ c.if-not-numbered_in.true)

pub returns : goal.returns
unfolding reaches_first
returns c = pass (sym c.numbered_in.ensures ∙ c.if-not-numbered_in.false) (rw c.first_number_in.ensures)
