-- `judge::feed::feed_chunk` meets its contract: the tables are tested once, and are arrays over the lines.
use Rattle.std.proofs.Common.{ap}
use Rattle.judge.specs.Feed.{AfterChunk}
use Rattle.judge.proofs.Feeds.{sized, refused_chunk, judged_chunk}
use Rattle.judge.proofs.feed.feed_chunk.Goals as goal

pub returns-then-t-ne0 : goal.returns-then-t-ne0
returns-then-t-ne0 c = refused_chunk _ _ c.table_answer-t.ensures c.if-t-ne0.true

pub unreachable-requires : goal.unreachable-requires
unreachable-requires c = c.in_default.ensures.cases (sized _ c.table_answer-t.ensures c.if-t-ne0.false).names_sized

pub unreachable-requires-in_default-as_mut_array : goal.unreachable-requires-in_default-as_mut_array
unreachable-requires-in_default-as_mut_array c = c.in_default-as_mut_array.ensures.cases (sized _ c.table_answer-t.ensures c.if-t-ne0.false).nums_sized

pub unreachable-requires-in_default-as_mut_array-2 : goal.unreachable-requires-in_default-as_mut_array-2
unreachable-requires-in_default-as_mut_array-2 c = c.in_default-as_mut_array-2.ensures.cases (sized _ c.table_answer-t.ensures c.if-t-ne0.false).ticks_sized

pub returns : goal.returns
returns c =
    let names = c.in-Some.ensures.cases in
    let nums = c.in-Some-as_mut_array.ensures.cases in
    let ticks = c.in-Some-as_mut_array-2.ensures.cases in
    judged_chunk _ _ c.table_answer-t.ensures c.if-t-ne0.false
    (ap (λ (x : AfterChunk). x.fed.used) c.lines_in-fed.ensures)
    (rw (← names.same, ← nums.same, ← ticks.same) (ap (λ (x : AfterChunk). x.left) c.lines_in-fed.ensures))
