-- `outcome::figure::idle_ticks` meets its contract: what is open is added where the core is idle.
use Rattle.std.proofs.Common.{eq-eqb, ne_eqb}
use Rattle.sheet.specs.Figure.{idle_in}
use Rattle.outcome.proofs.figure.idle_ticks.Goals as goal

pub returns-then-nums-i-ne-IDLE_CORE : goal.returns-then-nums-i-ne-IDLE_CORE
unfolding idle_in
returns-then-nums-i-ne-IDLE_CORE c = rw (ne_eqb _ 1 c.if-nums-i-ne-IDLE_CORE.true)

pub returns : goal.returns
unfolding idle_in
returns c = rw (eq-eqb _ 1 c.if-nums-i-ne-IDLE_CORE.false, ← c.open_ticks.ensures)
