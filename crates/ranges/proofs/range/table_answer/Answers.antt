-- `ranges::range::table_answer` meets its contract: 15 by the sizes, else 0 or 16 by the ranges.
use Rattle.std.proofs.Common.{sym, ◌∙◌}
use Rattle.tables.proofs.Sizes.{sizes_mean}
use Rattle.ranges.specs.Range.{table_answer}
use Rattle.ranges.proofs.range.table_answer.Goals as goal

pub returns-then-not-sized : goal.returns-then-not-sized
unfolding table_answer
returns-then-not-sized c = rw (← c.sized.ensures, c.if-not-sized.true)

pub unreachable-requires : goal.unreachable-requires
unreachable-requires c =
    let a = c.args in
    c.in_default.ensures.cases ((sizes_mean a.names.now a.nums.now a.ticks.now).holds (sym c.sized.ensures ∙ c.if-not-sized.false)).names_sized

pub unreachable-requires-in_default-as_array : goal.unreachable-requires-in_default-as_array
unreachable-requires-in_default-as_array c =
    let a = c.args in
    c.in_default-as_array.ensures.cases ((sizes_mean a.names.now a.nums.now a.ticks.now).holds (sym c.sized.ensures ∙ c.if-not-sized.false)).nums_sized

pub unreachable-requires-in_default-as_array-2 : goal.unreachable-requires-in_default-as_array-2
unreachable-requires-in_default-as_array-2 c =
    let a = c.args in
    c.in_default-as_array-2.ensures.cases ((sizes_mean a.names.now a.nums.now a.ticks.now).holds (sym c.sized.ensures ∙ c.if-not-sized.false)).ticks_sized

pub returns-then-in_range : goal.returns-then-in_range
unfolding table_answer
returns-then-in_range c =
    let names = c.in-Some.ensures.cases in
    let nums = c.in-Some-as_array.ensures.cases in
    let ticks = c.in-Some-as_array-2.ensures.cases in
    rw (← c.sized.ensures, c.if-not-sized.false, ← names.same, ← nums.same, ← ticks.same, ← c.in_range.ensures, c.if-in_range.true)

pub returns-else-in_range : goal.returns-else-in_range
unfolding table_answer
returns-else-in_range c =
    let names = c.in-Some.ensures.cases in
    let nums = c.in-Some-as_array.ensures.cases in
    let ticks = c.in-Some-as_array-2.ensures.cases in
    rw (← c.sized.ensures, c.if-not-sized.false, ← names.same, ← nums.same, ← ticks.same, ← c.in_range.ensures, c.if-in_range.false)
