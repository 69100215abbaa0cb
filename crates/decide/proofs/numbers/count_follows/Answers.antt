-- `decide::numbers::count_follows` meets its contract: at each exit the tests passed say which case of the definition it is.
use borrow.Author.Tests.{eq-eqb, ne_eqb}
use Rattle.decide.specs.PlanCode.{count_follows_in}
use Rattle.rules.specs.Words.{increment, decrement}
use Rattle.decide.proofs.numbers.count_follows.Goals as goal

pub returns-then-word-eq-INCREMENT : goal.returns-then-word-eq-INCREMENT
unfolding count_follows_in
returns-then-word-eq-INCREMENT c = rw (eq-eqb _ increment c.if-word-eq-INCREMENT.true)

pub returns-then-word-eq-DECREMENT : goal.returns-then-word-eq-DECREMENT
unfolding count_follows_in
returns-then-word-eq-DECREMENT c = rw (ne_eqb _ increment c.if-word-eq-INCREMENT.false, eq-eqb _ decrement c.if-word-eq-DECREMENT.true)

pub returns : goal.returns
unfolding count_follows_in
returns c = rw (ne_eqb _ increment c.if-word-eq-INCREMENT.false, ne_eqb _ decrement c.if-word-eq-DECREMENT.false)
