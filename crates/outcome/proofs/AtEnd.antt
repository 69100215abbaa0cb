-- The verdict that tables in range tell is at most 14, so that 15 and 16 are always refusals of what was lent.
use Rattle.std.proofs.Common.{◌≡◌, ℕ, ◌≤◌, Bool, true, false, cond, eqb, List, arith}
use Rattle.rules.specs.Limits.{last_refusal}
use Rattle.tables.specs.Entry.{verdict_number, line_count, scale_entry}
use Rattle.ranges.specs.Range.{table_answer}
use Rattle.ranges.proofs.Valid.{valid}
use Rattle.outcome.specs.AtEnd.{verdict, verdict_in}

pub told_most : (names nums ticks : List ℕ) → table_answer names nums ticks ≡ 0 → (verdict_in nums ticks).number ≤ last_refusal
unfolding verdict_in
told_most names nums ticks e = by_tests (eqb (verdict_number nums) 0) (eqb (line_count nums) 0) (eqb (scale_entry nums) 0) _ _ _ _ _
  where
    by_tests : (a b d : Bool) (l m n s r : ℕ) →
        (cond a (cond b (verdict 2 1 0 s) (cond d (verdict 4 l 0 s) (verdict 0 0 n s))) (verdict (verdict_number nums) m r s)).number ≤ last_refusal
    by_tests true true d l m n s r = omega arith
    by_tests true false true l m n s r = omega arith
    by_tests true false false l m n s r = omega arith
    by_tests false b d l m n s r = (valid names nums ticks e).verdict
