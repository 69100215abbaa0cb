-- `decide::numbers::least_count` meets its contract: each word of the list is tested.
use borrow.Author.Tests.{ne_eqb}
use Rattle.decide.specs.PlanCode.{least_count}
use Rattle.rules.specs.Words.{increment, lock_used, full, overfull, unlock_full, used}
use Rattle.decide.proofs.numbers.least_count.Goals as goal

pub returns-then-word-eq-INCREMENT : goal.returns-then-word-eq-INCREMENT
unfolding least_count
returns-then-word-eq-INCREMENT c = rw c.if-word-eq-INCREMENT.true

pub returns-then-word-eq-USED : goal.returns-then-word-eq-USED
unfolding least_count
returns-then-word-eq-USED c = rw c.if-word-eq-USED.true

pub returns-then-word-eq-UNLOCK_FULL : goal.returns-then-word-eq-UNLOCK_FULL
unfolding least_count
returns-then-word-eq-UNLOCK_FULL c = rw c.if-word-eq-UNLOCK_FULL.true

pub returns-then-word-eq-LOCK_USED : goal.returns-then-word-eq-LOCK_USED
unfolding least_count
returns-then-word-eq-LOCK_USED c = rw c.if-word-eq-LOCK_USED.true

pub returns-then-word-eq-FULL : goal.returns-then-word-eq-FULL
unfolding least_count
returns-then-word-eq-FULL c = rw c.if-word-eq-FULL.true

pub returns-then-word-eq-OVERFULL : goal.returns-then-word-eq-OVERFULL
unfolding least_count
returns-then-word-eq-OVERFULL c = rw c.if-word-eq-OVERFULL.true

pub returns-else-word-eq-OVERFULL : goal.returns-else-word-eq-OVERFULL
unfolding least_count
returns-else-word-eq-OVERFULL c =
    rw (
      ne_eqb _ increment c.if-word-eq-INCREMENT.false,
      ne_eqb _ used c.if-word-eq-USED.false,
      ne_eqb _ unlock_full c.if-word-eq-UNLOCK_FULL.false,
      ne_eqb _ lock_used c.if-word-eq-LOCK_USED.false,
      ne_eqb _ full c.if-word-eq-FULL.false,
      ne_eqb _ overfull c.if-word-eq-OVERFULL.false,
    )
