-- Answers to a question of yes or no about numbers one after the other, many in one number: the first answer is its lowest binary digit.
use Rattle.std.specs.Prelude.{ℕ, zero, suc, ◌+◌, ◌-◌, ◌*◌, Bool, true, false, cond, ◌&&◌, ◌==◌, bit_and, nat_le}
use Rattle.std.specs.Int.Count.{count_trailing_zeros}
use Rattle.marks.specs.declared.two.Marks.{Marks}

abbrev pub bit : Bool → ℕ
bit true = 1
bit false = 0

-- the answers for n numbers from i on
unfoldable pub marks_from : (ℕ → Bool) → ℕ → ℕ → ℕ
marks_from f i zero = 0
marks_from f i (suc n) = bit (f i) + 2 * marks_from f (suc i) n

-- the answers for 128 numbers from i on, in two numbers
abbrev pub marks_of : (ℕ → Bool) → ℕ → Marks
marks_of f i = record { low = marks_from f i 64; high = marks_from f (i + 64) 64 }

-- the same question, with no for each number below a
unfoldable pub from_on : ℕ → (ℕ → Bool) → ℕ → Bool
from_on a f i = nat_le a i && f i

-- ---- what the code makes of two numbers, whatever they are: `first_mark_lem` and `rest_marks_lem` (proofs/Marked) say what that is for answers

-- a number without its lowest digit 1
unfoldable pub lowest_off : ℕ → ℕ
lowest_off x = bit_and x (x - 1)

unfoldable pub first_mark : Marks → ℕ
first_mark m = cond (m.low == 0) (64 + count_trailing_zeros 64 m.high) (count_trailing_zeros 64 m.low)

unfoldable pub rest_marks : Marks → Marks
rest_marks m = cond (m.low == 0) (record { low = 0; high = lowest_off m.high }) (record { low = lowest_off m.low; high = m.high })
