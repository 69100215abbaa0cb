-- `store::take::take` meets its contract: nothing by the sizes, else what is stored in tables of the right sizes.
use Rattle.tables.proofs.Sizes.{is_right, is_wrong}
use Rattle.store.specs.Store.{stored}
use Rattle.store.proofs.take.take.Goals as goal

pub returns-in_default : goal.returns-in_default
unfolding stored
returns-in_default c =
    let a = c.args in
    rw (is_wrong a.names.now a.nums.now a.ticks.now (λ s. c.in_default.ensures.cases s.names_sized))

pub returns-in_default-as_mut_array : goal.returns-in_default-as_mut_array
unfolding stored
returns-in_default-as_mut_array c =
    let a = c.args in
    rw (is_wrong a.names.now a.nums.now a.ticks.now (λ s. c.in_default-as_mut_array.ensures.cases s.nums_sized), c.in-Some.ensures.cases.same)

pub returns-in_default-as_mut_array-2 : goal.returns-in_default-as_mut_array-2
unfolding stored
returns-in_default-as_mut_array-2 c =
    let a = c.args in
    rw (
      is_wrong a.names.now a.nums.now a.ticks.now (λ s. c.in_default-as_mut_array-2.ensures.cases s.ticks_sized),
      c.in-Some.ensures.cases.same,
      c.in-Some-as_mut_array.ensures.cases.same,
    )

pub returns : goal.returns
unfolding stored
returns c =
    let a = c.args in
    let names = c.in-Some.ensures.cases in
    let nums = c.in-Some-as_mut_array.ensures.cases in
    let ticks = c.in-Some-as_mut_array-2.ensures.cases in
    rw (is_right (record { names_sized = names.long; nums_sized = nums.long; ticks_sized = ticks.long }), ← names.same, ← nums.same, ← ticks.same) c.take_in.ensures
