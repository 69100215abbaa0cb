-- `judge::feed::feed` meets its contract: the tables are tested first.
use Rattle.std.proofs.Common.{ap}
use Rattle.judge.specs.Feed.{after, AfterChunk}
use Rattle.judge.proofs.Feeds.{refused_fed, judged_fed, sized}
use Rattle.judge.proofs.feed.feed.Goals as goal

pub returns-then-t-ne0 : goal.returns-then-t-ne0
returns-then-t-ne0 c = refused_fed _ _ c.table_answer-t.ensures c.if-t-ne0.true

pub unreachable-requires : goal.unreachable-requires
unreachable-requires c = c.in_default.ensures.cases (sized _ c.table_answer-t.ensures c.if-t-ne0.false).names_sized

pub unreachable-requires-in_default-as_mut_array : goal.unreachable-requires-in_default-as_mut_array
unreachable-requires-in_default-as_mut_array c = c.in_default-as_mut_array.ensures.cases (sized _ c.table_answer-t.ensures c.if-t-ne0.false).nums_sized

pub unreachable-requires-in_default-as_mut_array-2 : goal.unreachable-requires-in_default-as_mut_array-2
unreachable-requires-in_default-as_mut_array-2 c = c.in_default-as_mut_array-2.ensures.cases (sized _ c.table_answer-t.ensures c.if-t-ne0.false).ticks_sized

pub returns : goal.returns
returns c =
    let names = c.in-Some.ensures.cases in
    let nums = c.in-Some-as_mut_array.ensures.cases in
    let ticks = c.in-Some-as_mut_array-2.ensures.cases in
    judged_fed _ _ c.table_answer-t.ensures c.if-t-ne0.false
    (rw (← names.same, ← nums.same, ← ticks.same) (ap (λ (x : AfterChunk). after x.fed.answer x.left.names x.left.nums x.left.ticks) c.lines_in-fed.ensures))
