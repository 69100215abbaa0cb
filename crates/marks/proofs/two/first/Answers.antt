-- `marks::two::first` meets its contract.
use Rattle.std.proofs.Common.{eq-eqb, ne_eqb}
use Rattle.marks.specs.Marks.{first_mark}
use Rattle.marks.proofs.two.first.Goals as goal

pub returns-then-m-eq0 : goal.returns-then-m-eq0
unfolding first_mark
returns-then-m-eq0 c = rw (eq-eqb _ _ c.if-m-eq0.true)

pub returns : goal.returns
unfolding first_mark
returns c = rw (ne_eqb _ _ c.if-m-eq0.false)
