-- `decide::numbers::count_broken` meets its contract: at each exit the tests passed say what the definition's tests say.
use borrow.Author.Tests.{eq-eqb, ne_eqb}
use Rattle.rules.specs.Words.{semaphore}
use Rattle.decide.specs.PlanCode.{count_broken_in}
use Rattle.decide.proofs.numbers.count_broken.Goals as goal

pub returns-then-kind-ne-SEMAPHORE : goal.returns-then-kind-ne-SEMAPHORE
unfolding count_broken_in
returns-then-kind-ne-SEMAPHORE c = rw (ne_eqb _ semaphore c.if-kind-ne-SEMAPHORE.true)

pub returns-then-not-count_fits : goal.returns-then-not-count_fits
unfolding count_broken_in
returns-then-not-count_fits c = rw (eq-eqb _ semaphore c.if-kind-ne-SEMAPHORE.false, ← c.count_fits.ensures, c.if-not-count_fits.true)

pub returns-then-not-numbered_in : goal.returns-then-not-numbered_in
unfolding count_broken_in
returns-then-not-numbered_in c =
    rw (
      eq-eqb _ semaphore c.if-kind-ne-SEMAPHORE.false,
      ← c.count_fits.ensures,
      c.if-not-count_fits.false,
      ← c.numbered_in.ensures,
      c.if-not-numbered_in.true,
    )

pub returns : goal.returns
unfolding count_broken_in
returns c =
    rw (
      eq-eqb _ semaphore c.if-kind-ne-SEMAPHORE.false,
      ← c.count_fits.ensures,
      c.if-not-count_fits.false,
      ← c.numbered_in.ensures,
      c.if-not-numbered_in.false,
      c.count_follows.ensures,
      c.number_in.ensures,
    )
