use mathlib.Core.Path.{sym, ◌∙◌}
use native.Mathlib.Omega.{arith}
use Rattle.lookup.proofs.Seeks.{seek_begin, seek_free, seek_hit, seek_miss, seek_end}
use Rattle.lookup.proofs.find.seek.Goals as goal

pub loop-d-init : goal.loop-d-init
loop-d-init c = seek_begin _ _ _ _ _

pub returns-then-e-eq0 : goal.returns-then-e-eq0
returns-then-e-eq0 c =
    let l = c.loop-d in
    sym (l.invariant ∙ seek_free _ _ _ _ _ l.d (omega (arith, c.loop-d-test.true)) c.if-e-eq0.true)

pub returns-then-row_is : goal.returns-then-row_is
returns-then-row_is c =
    let l = c.loop-d in
    sym (l.invariant ∙ seek_hit _ _ _ _ _ l.d (omega (arith, c.loop-d-test.true)) c.if-e-eq0.false (sym c.row_is.ensures ∙ c.if-row_is.true))

pub loop-d-preserved : goal.loop-d-preserved
loop-d-preserved c =
    let l = c.loop-d in
    l.invariant ∙ seek_miss _ _ _ _ _ l.d (omega (arith, c.loop-d-test.true)) c.if-e-eq0.false (sym c.row_is.ensures ∙ c.if-row_is.false)

pub returns : goal.returns
returns c =
    let l = c.loop-d in
    sym (l.invariant ∙ seek_end _ _ _ _ _ l.d (omega (arith, c.loop-d-test.false)))
