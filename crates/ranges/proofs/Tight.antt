-- How tight the contract of the tables' ranges is: no second answer.
use mathlib.Core.Path.{◌≡◌}
use mathlib.Core.List.{List}
use Prim.Native.Nat.{ℕ}
use Rattle.text.proofs.Tight.{unique}
use Rattle.ranges.specs.Range.{table_answer}

pub table_answer_unique : (names nums ticks : List ℕ) (x y : ℕ) → x ≡ table_answer names nums ticks → y ≡ table_answer names nums ticks → x ≡ y
table_answer_unique names nums = unique (table_answer names nums)
