use Rattle.std.proofs.Common.{sym, ◌∙◌, arith}
use Rattle.index.proofs.Right.{place_lt}
use Rattle.store.proofs.PlaceStores.{free_begin, free_here, free_on, free_none}
use Rattle.store.proofs.places.free_place.Goals as goal

pub loop-d-init : goal.loop-d-init
loop-d-init c = free_begin _ _

pub returns-then-index-p-eq0 : goal.returns-then-index-p-eq0
returns-then-index-p-eq0 c =
    (sym (c.loop-d.invariant ∙ free_here _ _ c.loop-d.d (omega (arith, c.loop-d-test.true)) c.if-index-p-eq0.true), place_lt c.args.home c.loop-d.d)

pub loop-d-preserved : goal.loop-d-preserved
loop-d-preserved c = c.loop-d.invariant ∙ free_on _ _ c.loop-d.d (omega (arith, c.loop-d-test.true)) c.if-index-p-eq0.false

pub returns : goal.returns
returns c = c.loop-d.invariant ∙ free_none _ _ c.loop-d.d (omega (arith, c.loop-d-test.false))
