-- What is refused was not read.
use Rattle.judge.specs.Feed.{tables}
use Rattle.input.proofs.Sizes.{refused, handed_on}
use Rattle.input.proofs.reads.read_all.Goals as goal

pub returns-in_err-test_lent : goal.returns-in_err-test_lent
returns-in_err-test_lent g c =
    let a = c.args in
    let t = tables a.names.now a.nums.now a.ticks.now in
    rw (handed_on _ c.from_residual.ensures.1) (refused {t = t} {b = a.buf.now} _ c.in_err-test_lent.ensures)
