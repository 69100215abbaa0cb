-- "A fresh start .. overwrites what the tables held and never gives 16."
use Rattle.std.specs.Prelude.{cond, List, ℕ, length, replicate}
use Rattle.tables.specs.Entry.{names_size, nums_size, ticks_size}
use Rattle.tables.specs.Sized.{is_sized}

-- an answer with the three tables afterwards
pub record Cleared : Type 0 where
  pub answer : ℕ
  pub names : List ℕ
  pub nums : List ℕ
  pub ticks : List ℕ

abbrev pub cleared : ℕ → List ℕ → List ℕ → List ℕ → Cleared
cleared r names nums ticks = record { answer = r; names = names; nums = nums; ticks = ticks }

unfoldable pub cleared_of : List ℕ → List ℕ → List ℕ → Cleared
cleared_of names nums ticks =
    cond (is_sized (length names) (length nums) (length ticks))
    (cleared 0 (replicate names_size 0) (replicate nums_size 0) (replicate ticks_size 0))
    (cleared 15 names nums ticks)
