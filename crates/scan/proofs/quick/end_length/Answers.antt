-- `scan::quick::end_length` meets its contract: a byte 10, a byte that begins no end, or a byte 13 with or without a byte 10 after it.
use Rattle.std.proofs.Common.{eq-eqb, ne_eqb}
use Rattle.scan.specs.Quick.{end_length}
use Rattle.scan.proofs.quick.end_length.Goals as goal

pub returns-then-s-p-eq10 : goal.returns-then-s-p-eq10
unfolding end_length
returns-then-s-p-eq10 c = rw (eq-eqb _ _ c.if-s-p-eq10.true)

pub returns-then-s-p-ne13 : goal.returns-then-s-p-ne13
unfolding end_length
returns-then-s-p-ne13 c = rw (ne_eqb _ 10 c.if-s-p-eq10.false, ne_eqb _ 13 c.if-s-p-ne13.true)

pub returns-then-s-p-eq10-2 : goal.returns-then-s-p-eq10-2
unfolding end_length
returns-then-s-p-eq10-2 c = rw (ne_eqb _ 10 c.if-s-p-eq10.false, eq-eqb _ 13 c.if-s-p-ne13.false, eq-eqb _ 10 c.if-s-p-eq10-2.true)

pub returns-else-s-p-eq10-2 : goal.returns-else-s-p-eq10-2
unfolding end_length
returns-else-s-p-eq10-2 c = rw (ne_eqb _ 10 c.if-s-p-eq10.false, eq-eqb _ 13 c.if-s-p-ne13.false, ne_eqb _ 10 c.if-s-p-eq10-2.false)
