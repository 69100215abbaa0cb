use mathlib.Core.Path.{sym}
use native.Mathlib.Omega.{arith}
use borrow.Author.Rules.{rules}
use Rattle.text.proofs.Finds.{found_within}
use Rattle.paper.proofs.LineWalk.{word_missing, word_next, word_here}
use Rattle.paper.proofs.line.word.Goals as goal

pub returns-then-n-e : goal.returns-then-n-e
returns-then-n-e c = sym (word_missing _ _ _ _ _ c.find-e.ensures c.loop.invariant.1 c.if-n-e.true c.loop-test.true)

pub loop-preserved : goal.loop-preserved
loop-preserved c = (omega arith, word_next _ c.loop.counter _ _ c.find-e.ensures c.loop.invariant.1 c.if-n-e.false)

pub slice_bounds-result-count-2 : goal.slice_bounds-result-count-2
slice_bounds-result-count-2 c = (found_within _ _ _ _ c.find-e-2.ensures c.loop.invariant.0).0

pub slice_bounds-result-start-2 : goal.slice_bounds-result-start-2
slice_bounds-result-start-2 c = let h = found_within 32 c.args.line.now c.loop.at c.find-e-2.result c.find-e-2.ensures c.loop.invariant.0 in search rules

pub slice_bounds-result-end-2 : goal.slice_bounds-result-end-2
slice_bounds-result-end-2 c = let h = found_within 32 c.args.line.now c.loop.at c.find-e-2.result c.find-e-2.ensures c.loop.invariant.0 in search rules

pub returns : goal.returns
returns c =
    let l = c.loop in
    sym (word_here _ _ _ _ _ c.find-e-2.ensures l.invariant.1 l.auto.counter-end c.loop-test.false)
