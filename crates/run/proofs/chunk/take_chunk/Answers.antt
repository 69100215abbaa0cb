-- `run::chunk::take_chunk` meets its contract: a refused chunk stops the reading, and what is left of any other is carried over.
use Rattle.std.proofs.Common.{arith}
use Rattle.run.proofs.Turns.{front_min, used_rest, turn_refused, turn_on}
use Rattle.run.proofs.chunk.take_chunk.Goals as goal

pub returns-then-fed-ne0 : goal.returns-then-fed-ne0
returns-then-fed-ne0 c = turn_refused _ _ _ (front_min _ _ _ c.min-end.ensures) c.feed_chunk-fed.ensures c.if-fed-ne0.true

pub overflow_sub-left : goal.overflow_sub-left
overflow_sub-left c = omega (arith, used_rest _ _ _ (front_min _ _ _ c.min-end.ensures) c.feed_chunk-fed.ensures c.if-fed-ne0.false)

pub carry_over-requires : goal.carry_over-requires
carry_over-requires c = omega (arith, used_rest _ _ _ (front_min _ _ _ c.min-end.ensures) c.feed_chunk-fed.ensures c.if-fed-ne0.false)

pub returns : goal.returns
returns c = turn_on _ _ _ (front_min _ _ _ c.min-end.ensures) c.feed_chunk-fed.ensures c.if-fed-ne0.false c.carry_over.ensures
