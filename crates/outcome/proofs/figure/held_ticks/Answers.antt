-- `outcome::figure::held_ticks` meets its contract: what is open is added where the core is held.
use Rattle.std.proofs.Common.{le-ltb, lt-ltb}
use Rattle.sheet.specs.Figure.{held_in}
use Rattle.outcome.proofs.figure.held_ticks.Goals as goal

pub returns-then-nums-i-lt-HELD_FROM : goal.returns-then-nums-i-lt-HELD_FROM
unfolding held_in
returns-then-nums-i-lt-HELD_FROM c = rw (lt-ltb _ 2 c.if-nums-i-lt-HELD_FROM.true)

pub returns : goal.returns
unfolding held_in
returns c = rw (le-ltb _ 2 c.if-nums-i-lt-HELD_FROM.false, ← c.open_ticks.ensures)
