-- `steps::kind::core_class` meets its contract: an event of another type does nothing to a core, and one of T or I what its class says.
use mathlib.Core.Path.{sym, ◌∙◌}
use borrow.Author.Tests.{eq-eqb, ne_eqb}
use Rattle.words.specs.Class.{polling}
use Rattle.steps.proofs.CoreClasses.{by_class, class_off, class_says}
use Rattle.steps.proofs.kind.core_class.Goals as goal

pub returns-then-not-is_process : goal.returns-then-not-is_process
returns-then-not-is_process c = class_off _ _ (sym c.is_process.ensures ∙ c.if-not-is_process.true)

pub returns-then-class : goal.returns-then-class
unfolding by_class
returns-then-class c = rw (← class_says _ _ _ (sym c.is_process.ensures ∙ c.if-not-is_process.false) c.class_at-class.ensures, c.if-class.true)

pub returns-then-class-2 : goal.returns-then-class-2
unfolding by_class
returns-then-class-2 c = rw (← class_says _ _ _ (sym c.is_process.ensures ∙ c.if-not-is_process.false) c.class_at-class.ensures, c.if-class.false, c.if-class-2.true)

pub returns-then-class-eq-POLLING : goal.returns-then-class-eq-POLLING
unfolding by_class
returns-then-class-eq-POLLING c = rw (← class_says _ _ _ (sym c.is_process.ensures ∙ c.if-not-is_process.false) c.class_at-class.ensures, c.if-class.false, c.if-class-2.false, eq-eqb _ polling c.if-class-eq-POLLING.true)

pub returns-else-class-eq-POLLING : goal.returns-else-class-eq-POLLING
unfolding by_class
returns-else-class-eq-POLLING c = rw (← class_says _ _ _ (sym c.is_process.ensures ∙ c.if-not-is_process.false) c.class_at-class.ensures, c.if-class.false, c.if-class-2.false, ne_eqb _ polling c.if-class-eq-POLLING.false)
