-- `outcome::now::outcome_now` meets its contract: refused tables leave the output as it was, and no others are of a wrong size.
use Rattle.std.proofs.Common.{sym, ◌∙◌}
use Rattle.ranges.proofs.Valid.{valid}
use Rattle.outcome.proofs.Outcomes.{tables_refused}
use Rattle.outcome.proofs.now.outcome_now.Goals as goal

pub returns-then-t-ne0 : goal.returns-then-t-ne0
returns-then-t-ne0 c = tables_refused _ _ c.table_answer-t.ensures c.if-t-ne0.true c.refused.ensures

pub unreachable-requires : goal.unreachable-requires
unreachable-requires c = c.in_default.ensures.cases (valid _ _ _ (sym c.table_answer-t.ensures ∙ c.if-t-ne0.false)).sizes.names_sized

pub unreachable-requires-in_default-as_array : goal.unreachable-requires-in_default-as_array
unreachable-requires-in_default-as_array c = c.in_default-as_array.ensures.cases (valid _ _ _ (sym c.table_answer-t.ensures ∙ c.if-t-ne0.false)).sizes.nums_sized

pub unreachable-requires-in_default-as_array-2 : goal.unreachable-requires-in_default-as_array-2
unreachable-requires-in_default-as_array-2 c = c.in_default-as_array-2.ensures.cases (valid _ _ _ (sym c.table_answer-t.ensures ∙ c.if-t-ne0.false)).sizes.ticks_sized

pub invariant_of-tables : goal.invariant_of-tables
invariant_of-tables c =
    record { in_range = rw (c.in-Some.ensures.cases.same, c.in-Some-as_array.ensures.cases.same, c.in-Some-as_array-2.ensures.cases.same) (sym c.table_answer-t.ensures ∙ c.if-t-ne0.false) }

pub returns : goal.returns
returns c = rw (← c.in-Some.ensures.cases.same, ← c.in-Some-as_array.ensures.cases.same, ← c.in-Some-as_array-2.ensures.cases.same) c.outcome.ensures
