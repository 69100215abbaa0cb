-- `place::answer_in_place` meets its contract: the tests made are the definition's, in its order.
use borrow.Author.Tests.{le-leb, lt-leb, eq-eqb, ne_eqb}
use Rattle.steps.specs.PlaceCode.{answer_by_reading}
use Rattle.steps.proofs.place.answer_in_place.Goals as goal

pub returns-then-p-ge-LINE_LIMIT : goal.returns-then-p-ge-LINE_LIMIT
unfolding answer_by_reading
returns-then-p-ge-LINE_LIMIT c = rw (le-leb _ _ c.if-p-ge-LINE_LIMIT.true)

pub returns-then-p-eq0 : goal.returns-then-p-eq0
unfolding answer_by_reading
returns-then-p-eq0 c = rw (lt-leb _ _ c.if-p-ge-LINE_LIMIT.false, eq-eqb _ _ c.if-p-eq0.true) c.first_answer.ensures

pub returns : goal.returns
unfolding answer_by_reading
returns c = rw (lt-leb _ _ c.if-p-ge-LINE_LIMIT.false, ne_eqb _ _ c.if-p-eq0.false) c.later_answer.ensures
