-- `scan::quick::ends_after` meets its contract: no line ends there, or one does.
use Rattle.std.proofs.Common.{◌+◌, ◌≤◌, arith}
use Rattle.scan.specs.Quick.{ends_after}
use Rattle.scan.proofs.Ends.{end_most, line_ends}
use Rattle.scan.proofs.quick.ends_after.Goals as goal

pub returns-then-more-eq0 : goal.returns-then-more-eq0
unfolding ends_after
returns-then-more-eq0 c = rw (← c.end_length-more.ensures, c.if-more-eq0.true)

pub overflow_add-result : goal.overflow_add-result
overflow_add-result c =
    let a = c.args in
    let two : c.end_length-more.result ≤ 2 = rw c.end_length-more.ensures (end_most a.s.now (a.at + a.n)) in
    omega arith

pub returns : goal.returns
unfolding ends_after
returns c = rw (← c.end_length-more.ensures) (line_ends _ _ _ c.if-more-eq0.false)
