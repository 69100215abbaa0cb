-- `marks::two::rest` meets its contract.
use Rattle.std.proofs.Common.{eq-eqb, ne_eqb}
use Rattle.marks.specs.Marks.{rest_marks}
use Rattle.marks.proofs.two.rest.Goals as goal

pub returns-then-m-eq0 : goal.returns-then-m-eq0
unfolding rest_marks
returns-then-m-eq0 c = rw (c.lowest_off.ensures, eq-eqb _ _ c.if-m-eq0.true)

pub returns : goal.returns
unfolding rest_marks
returns c = rw (c.lowest_off-2.ensures, ne_eqb _ _ c.if-m-eq0.false)
