-- `adding::merge::next_of` meets its contract: a section with no row left comes no more, and of two names the lesser comes first.
use native.Mathlib.Omega.{arith}
use Rattle.adding.proofs.NextRows.{left_ended, right_ended, both_left}
use Rattle.adding.proofs.merge.next_of.Goals as goal

pub returns-then-left-i : goal.returns-then-left-i
returns-then-left-i c = let a = c.args in left_ended a.left.now.text.now a.left.now.places.now a.i a.right.now.text.now a.right.now.places.now a.j (omega arith)

pub returns-then-right-j : goal.returns-then-right-j
returns-then-right-j c = let a = c.args in right_ended a.left.now.text.now a.left.now.places.now a.i a.right.now.text.now a.right.now.places.now a.j (omega arith) (omega arith)

pub returns : goal.returns
returns c =
    let a = c.args in
    both_left a.left.now.text.now a.left.now.places.now a.i a.right.now.text.now a.right.now.places.now a.j (omega arith) (omega arith) c.name_at.ensures c.name_at-2.ensures c.compare.ensures
