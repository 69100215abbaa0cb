use borrow.Author.Rules.{rules}
use Rattle.adding.proofs.Sorts.{sort_none, sort_order, sort_turn, sort_twice}
use Rattle.adding.proofs.sort.sort.Goals as goal

pub loop-i-init : goal.loop-i-init
loop-i-init c = let a = c.args in (search rules, sort_none a.text.now a.places.now a.sorted.now)

pub insert-requires : goal.insert-requires
insert-requires c =
    let a = c.args in
    (search rules, sort_order a.text.now a.places.now c.loop-i.sorted c.loop-i.i (search rules) (search rules) c.loop-i.invariant.1)

pub returns-then-not-insert : goal.returns-then-not-insert
returns-then-not-insert c =
    let a = c.args in
    (search rules, sort_twice a.text.now a.places.now c.loop-i.sorted c.loop-i.i (search rules) (search rules) c.loop-i.invariant.1 _ c.insert.result (rw c.if-not-insert.true) c.insert.ensures.1)

pub loop-i-preserved : goal.loop-i-preserved
loop-i-preserved c =
    let a = c.args in
    (search rules, sort_turn a.text.now a.places.now c.loop-i.sorted c.loop-i.i (search rules) (search rules) c.loop-i.invariant.1 _ c.insert.result (rw c.if-not-insert.false) c.insert.ensures.1)
