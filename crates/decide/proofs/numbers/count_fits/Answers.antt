-- `decide::numbers::count_fits` meets its contract: three words fix the count, and the others have a least one.
use borrow.Author.Tests.{ne_eqb}
use Rattle.rules.specs.Refusals.{count_allowed}
use Rattle.rules.specs.Words.{free, unlock, lock}
use Rattle.decide.proofs.Counts.{least_fits}
use Rattle.decide.proofs.numbers.count_fits.Goals as goal

pub returns-then-word-eq-FREE : goal.returns-then-word-eq-FREE
unfolding count_allowed
returns-then-word-eq-FREE c = rw c.if-word-eq-FREE.true

pub returns-then-word-eq-UNLOCK : goal.returns-then-word-eq-UNLOCK
unfolding count_allowed
returns-then-word-eq-UNLOCK c = rw c.if-word-eq-UNLOCK.true

pub returns-then-word-eq-LOCK : goal.returns-then-word-eq-LOCK
unfolding count_allowed
returns-then-word-eq-LOCK c = rw c.if-word-eq-LOCK.true

pub returns : goal.returns
unfolding count_allowed
returns c =
    rw c.least_count.ensures
    (least_fits _ _ (ne_eqb _ free c.if-word-eq-FREE.false) (ne_eqb _ unlock c.if-word-eq-UNLOCK.false) (ne_eqb _ lock c.if-word-eq-LOCK.false))
