-- `store::nums::store_target` meets its contract: a semaphore's state and count; else the number of an event that numbers.
use Rattle.std.proofs.Common.{sym, ◌∙◌, eq-eqb, ne_eqb}
use Rattle.rules.specs.Words.{semaphore}
use Rattle.store.specs.Store.{with_target}
use Rattle.store.proofs.nums.store_target.Goals as goal

pub returns-then-kind-eq-SEMAPHORE : goal.returns-then-kind-eq-SEMAPHORE
unfolding with_target
returns-then-kind-eq-SEMAPHORE c = rw (eq-eqb _ semaphore c.if-kind-eq-SEMAPHORE.true) (rw c.store_standing.ensures at c.store_number.ensures)

pub returns-then-numbers_instance : goal.returns-then-numbers_instance
unfolding with_target
returns-then-numbers_instance c = rw (ne_eqb _ semaphore c.if-kind-eq-SEMAPHORE.false, sym c.numbers_instance.ensures ∙ c.if-numbers_instance.true) c.store_activation.ensures

pub returns-else-numbers_instance : goal.returns-else-numbers_instance
unfolding with_target
returns-else-numbers_instance c = rw (ne_eqb _ semaphore c.if-kind-eq-SEMAPHORE.false, sym c.numbers_instance.ensures ∙ c.if-numbers_instance.false)
