-- `decide::plan::decide` meets its contract: 15 by the sizes, else what tables of the right sizes say.
use Rattle.tables.proofs.Sizes.{is_right, is_wrong}
use Rattle.decide.specs.Decide.{decided}
use Rattle.decide.proofs.plan.decide.Goals as goal

pub returns-in_default : goal.returns-in_default
unfolding decided
returns-in_default c =
    let a = c.args in
    rw (is_wrong a.names.now a.nums.now a.ticks.now (λ s. c.in_default.ensures.cases s.names_sized))

pub returns-in_default-as_array : goal.returns-in_default-as_array
unfolding decided
returns-in_default-as_array c =
    let a = c.args in
    rw (is_wrong a.names.now a.nums.now a.ticks.now (λ s. c.in_default-as_array.ensures.cases s.nums_sized))

pub returns-in_default-as_array-2 : goal.returns-in_default-as_array-2
unfolding decided
returns-in_default-as_array-2 c =
    let a = c.args in
    rw (is_wrong a.names.now a.nums.now a.ticks.now (λ s. c.in_default-as_array-2.ensures.cases s.ticks_sized))

pub returns : goal.returns
unfolding decided
returns c =
    let names = c.in-Some.ensures.cases in
    let nums = c.in-Some-as_array.ensures.cases in
    let ticks = c.in-Some-as_array-2.ensures.cases in
    rw (is_right (record { names_sized = names.long; nums_sized = nums.long; ticks_sized = ticks.long }), ← names.same, ← nums.same, ← ticks.same) c.decide_in.ensures
