-- `decide::known::state_in` meets its contract: a semaphore's state stands with its name, an instance's with the instance.
use borrow.Author.Tests.{eq-eqb, ne_eqb}
use Rattle.rules.specs.Words.{semaphore}
use Rattle.decide.specs.Known.{state_in}
use Rattle.decide.proofs.known.state_in.Goals as goal

pub returns-then-kind-eq-SEMAPHORE : goal.returns-then-kind-eq-SEMAPHORE
unfolding state_in
returns-then-kind-eq-SEMAPHORE c = rw (eq-eqb _ semaphore c.if-kind-eq-SEMAPHORE.true) c.standing_in.ensures

pub returns : goal.returns
unfolding state_in
returns c = rw (ne_eqb _ semaphore c.if-kind-eq-SEMAPHORE.false) c.instance_state.ensures
