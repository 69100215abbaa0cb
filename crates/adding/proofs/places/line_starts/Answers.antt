use native.Mathlib.Omega.{arith}
use Rattle.text.proofs.Finds.{find_ge}
use Rattle.adding.proofs.LinePlaces.{placing_open, placing_full, placing_turn, placing_end}
use Rattle.adding.proofs.places.line_starts.Goals as goal

pub returns-then-text-e : goal.returns-then-text-e
returns-then-text-e c = placing_open _ _ _ _ c.loop-at.invariant (rw (← c.find-e.ensures) c.if-text-e.true) c.loop-at-test.true

pub returns-then-n-eq-LINES_MOST : goal.returns-then-n-eq-LINES_MOST
returns-then-n-eq-LINES_MOST c = placing_full _ _ _ _ c.loop-at.invariant (rw (← c.find-e.ensures) c.if-text-e.false) c.if-n-eq-LINES_MOST.true

pub loop-at-smaller : goal.loop-at-smaller
loop-at-smaller c = omega (arith, find_ge 10 c.args.text.now c.loop-at.at, c.find-e.ensures)

pub loop-at-preserved : goal.loop-at-preserved
loop-at-preserved c = rw c.find-e.ensures (placing_turn _ _ _ _ c.loop-at.invariant (rw (← c.find-e.ensures) c.if-text-e.false) (let k = c.loop-at.invariant in omega (arith, c.if-n-eq-LINES_MOST.false)))

pub returns : goal.returns
returns c = placing_end _ _ _ _ c.loop-at.invariant c.loop-at-test.false
