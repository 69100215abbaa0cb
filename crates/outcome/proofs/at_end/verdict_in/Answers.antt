-- `outcome::at_end::verdict_in` meets its contract: the tests made are the definition's, in its order.
use Rattle.std.proofs.Common.{eq-eqb, ne_eqb}
use Rattle.outcome.specs.AtEnd.{verdict_in}
use Rattle.outcome.proofs.at_end.verdict_in.Goals as goal

pub returns-then-nums-ne0 : goal.returns-then-nums-ne0
unfolding verdict_in
returns-then-nums-ne0 c = rw (ne_eqb _ 0 c.if-nums-ne0.true, c.span_in-span.ensures)

pub returns-then-nums-eq0 : goal.returns-then-nums-eq0
unfolding verdict_in
returns-then-nums-eq0 c = rw (eq-eqb _ 0 c.if-nums-ne0.false, eq-eqb _ 0 c.if-nums-eq0.true, c.span_in-span.ensures)

pub returns-then-scale-eq0 : goal.returns-then-scale-eq0
unfolding verdict_in
returns-then-scale-eq0 c =
    rw (eq-eqb _ 0 c.if-nums-ne0.false, ne_eqb _ 0 c.if-nums-eq0.false, eq-eqb _ 0 c.if-scale-eq0.true, c.span_in-span.ensures)

pub returns : goal.returns
unfolding verdict_in
returns c = rw (eq-eqb _ 0 c.if-nums-ne0.false, ne_eqb _ 0 c.if-nums-eq0.false, ne_eqb _ 0 c.if-scale-eq0.false, c.span_in-span.ensures)
