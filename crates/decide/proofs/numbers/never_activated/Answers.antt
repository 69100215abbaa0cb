-- `decide::numbers::never_activated` meets its contract: at each exit the tests passed say what the definition's tests say.
use mathlib.Core.Path.{sym, ap, ◌∙◌}
use mathlib.Core.Bool.{not}
use borrow.Author.Tests.{eq-eqb, ne_eqb}
use Rattle.tables.proofs.Chains.{pass, stop}
use Rattle.decide.specs.PlanCode.{never_activated_in}
use Rattle.decide.proofs.numbers.never_activated.Goals as goal

-- ---- the exits
pub returns-then-state_in-ne0 : goal.returns-then-state_in-ne0
unfolding never_activated_in
returns-then-state_in-ne0 c = stop _ (ne_eqb _ 0 (λ q. c.if-state_in-ne0.true (c.state_in.ensures ∙ q)))

pub returns-then-not-with_instances : goal.returns-then-not-with_instances
unfolding never_activated_in
returns-then-not-with_instances c = pass (eq-eqb _ 0 (sym c.state_in.ensures ∙ c.if-state_in-ne0.false)) (stop _ (sym c.with_instances.ensures ∙ c.if-not-with_instances.true))

pub returns-then-numbers_instance : goal.returns-then-numbers_instance
unfolding never_activated_in
returns-then-numbers_instance c = pass (eq-eqb _ 0 (sym c.state_in.ensures ∙ c.if-state_in-ne0.false)) (pass (sym c.with_instances.ensures ∙ c.if-not-with_instances.false) (stop _ (ap not (sym c.numbers_instance.ensures ∙ c.if-numbers_instance.true))))

pub returns : goal.returns
unfolding never_activated_in
returns c = pass (eq-eqb _ 0 (sym c.state_in.ensures ∙ c.if-state_in-ne0.false)) (pass (sym c.with_instances.ensures ∙ c.if-not-with_instances.false) (pass (ap not (sym c.numbers_instance.ensures ∙ c.if-numbers_instance.false)) c.reaches_first.ensures))
