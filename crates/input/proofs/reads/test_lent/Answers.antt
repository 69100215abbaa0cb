-- Its tests are the definition's.
use Rattle.std.proofs.Common.{arith}
use borrow.Author.Tests.{eq-eqb, ne_eqb}
use Rattle.input.specs.Reads.{input_refusal}
use Rattle.input.proofs.Sizes.{other_16}
use Rattle.input.proofs.reads.test_lent.Goals as goal

pub returns-then-buf-ne-BUFFER_SIZE : goal.returns-then-buf-ne-BUFFER_SIZE
unfolding input_refusal
returns-then-buf-ne-BUFFER_SIZE c = rw (ne_eqb _ _ c.if-buf-ne-BUFFER_SIZE.true)

pub returns-in-0 : goal.returns-in-0
unfolding input_refusal
returns-in-0 c = rw (eq-eqb _ _ c.if-buf-ne-BUFFER_SIZE.false, ← c.table_answer.ensures, c.in-0.is)

pub returns-in-15 : goal.returns-in-15
unfolding input_refusal
returns-in-15 c = rw (eq-eqb _ _ c.if-buf-ne-BUFFER_SIZE.false, ← c.table_answer.ensures, c.in-15.is)

pub returns-in_default : goal.returns-in_default
unfolding input_refusal
returns-in_default c =
    rw (eq-eqb _ _ c.if-buf-ne-BUFFER_SIZE.false, ← c.table_answer.ensures, other_16 _ _ _ c.table_answer.ensures (λ e. omega arith) (λ e. omega arith))
