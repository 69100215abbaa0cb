-- `fields::part::split` meets its contract: each place found is the next comma's, and none is far enough past the end for a sum to wrap.
use native.Mathlib.Omega.{arith}
use Rattle.fields.proofs.Parts.{place_first, place_next}
use Rattle.fields.proofs.part.split.Goals as goal

pub overflow_add-c1 : goal.overflow_add-c1
overflow_add-c1 c =
    let p1 = place_first _ _ c.find-c1.ensures in
    omega arith

pub overflow_add-c2 : goal.overflow_add-c2
overflow_add-c2 c =
    let p1 = place_first _ _ c.find-c1.ensures in
    let p2 = place_next _ 0 _ _ p1 c.find-c2.ensures in
    omega arith

pub overflow_add-c3 : goal.overflow_add-c3
overflow_add-c3 c =
    let p1 = place_first _ _ c.find-c1.ensures in
    let p2 = place_next _ 0 _ _ p1 c.find-c2.ensures in
    let p3 = place_next _ 1 _ _ p2 c.find-c3.ensures in
    omega arith

pub overflow_add-c4 : goal.overflow_add-c4
overflow_add-c4 c =
    let p1 = place_first _ _ c.find-c1.ensures in
    let p2 = place_next _ 0 _ _ p1 c.find-c2.ensures in
    let p3 = place_next _ 1 _ _ p2 c.find-c3.ensures in
    let p4 = place_next _ 2 _ _ p3 c.find-c4.ensures in
    omega arith

pub overflow_add-c5 : goal.overflow_add-c5
overflow_add-c5 c =
    let p1 = place_first _ _ c.find-c1.ensures in
    let p2 = place_next _ 0 _ _ p1 c.find-c2.ensures in
    let p3 = place_next _ 1 _ _ p2 c.find-c3.ensures in
    let p4 = place_next _ 2 _ _ p3 c.find-c4.ensures in
    let p5 = place_next _ 3 _ _ p4 c.find-c5.ensures in
    omega arith

pub overflow_add-c6 : goal.overflow_add-c6
overflow_add-c6 c =
    let p1 = place_first _ _ c.find-c1.ensures in
    let p2 = place_next _ 0 _ _ p1 c.find-c2.ensures in
    let p3 = place_next _ 1 _ _ p2 c.find-c3.ensures in
    let p4 = place_next _ 2 _ _ p3 c.find-c4.ensures in
    let p5 = place_next _ 3 _ _ p4 c.find-c5.ensures in
    let p6 = place_next _ 4 _ _ p5 c.find-c6.ensures in
    omega arith

pub overflow_add-c7 : goal.overflow_add-c7
overflow_add-c7 c =
    let p1 = place_first _ _ c.find-c1.ensures in
    let p2 = place_next _ 0 _ _ p1 c.find-c2.ensures in
    let p3 = place_next _ 1 _ _ p2 c.find-c3.ensures in
    let p4 = place_next _ 2 _ _ p3 c.find-c4.ensures in
    let p5 = place_next _ 3 _ _ p4 c.find-c5.ensures in
    let p6 = place_next _ 4 _ _ p5 c.find-c6.ensures in
    let p7 = place_next _ 5 _ _ p6 c.find-c7.ensures in
    omega arith

pub returns : goal.returns
returns c =
    let p1 = place_first _ _ c.find-c1.ensures in
    let p2 = place_next _ 0 _ _ p1 c.find-c2.ensures in
    let p3 = place_next _ 1 _ _ p2 c.find-c3.ensures in
    let p4 = place_next _ 2 _ _ p3 c.find-c4.ensures in
    let p5 = place_next _ 3 _ _ p4 c.find-c5.ensures in
    let p6 = place_next _ 4 _ _ p5 c.find-c6.ensures in
    let p7 = place_next _ 5 _ _ p6 c.find-c7.ensures in
    let p8 = place_next _ 6 _ _ p7 c.find-c8.ensures in
    λ i. record { c1 = p1.0 i; c2 = p2.0 i; c3 = p3.0 i; c4 = p4.0 i; c5 = p5.0 i; c6 = p6.0 i; c7 = p7.0 i; c8 = p8.0 i }
