use native.Mathlib.Omega.{arith}
use Rattle.text.proofs.Finds.{find_ge}
use Rattle.paper.proofs.LineWalk.{count_next, count_end}
use Rattle.paper.proofs.line.word_count.Goals as goal

pub returns-then-n-e : goal.returns-then-n-e
returns-then-n-e c =
    let l = c.loop-n in
    count_end _ l.k _ _ c.find-e.ensures l.invariant.0 l.invariant.3 c.if-n-e.true

pub loop-n-smaller : goal.loop-n-smaller
loop-n-smaller c = omega (arith, find_ge 32 c.args.line.now c.loop-n.at, c.find-e.ensures)

pub loop-n-preserved : goal.loop-n-preserved
loop-n-preserved c =
    let l = c.loop-n in
    let h = find_ge 32 c.args.line.now l.at in
    (omega arith, omega (arith, h, c.find-e.ensures), omega arith, count_next _ l.k _ _ c.find-e.ensures l.invariant.0 l.invariant.3 c.if-n-e.false)
