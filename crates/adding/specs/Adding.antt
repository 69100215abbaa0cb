-- Two texts added into a lent output. 02, No. 2: "These are 21 to 25 in this order; last of all, an output too short is 15. A refused sum writes nothing."
use Rattle.std.specs.Prelude.{cond, List, [], ◌∷◌, ℕ, ◌≤◌, leb, length, take}
use Rattle.std.specs.Result.{result_map_both}
use Rattle.std.specs.declared.result.Result.{Result}
use Rattle.std.specs.declared.result.Result.TheVariants.{Ok, Err}
use Rattle.text.specs.Put.{written}
use Rattle.shifts.specs.Sum.{Total, Text, Refusal, add_texts}
use Rattle.shifts.specs.Sizes.{sheet_most}
use Rattle.shifts.specs.Many.{alone}
use Rattle.shifts.specs.Grouping.{Grouping, Sheet, Sum as SumOfTwo}
use Rattle.adding.specs.declared.refusal.Refusal.{Refusal as Why}
use Rattle.adding.specs.declared.refusal.Refusal.TheVariants.{Output, Malformed, Scales, Names, TooMany, TooLong}

-- the number of 02's list, or of 01's table, that a refusal is
abbrev pub number_of : Why → ℕ
number_of Output = 15
number_of Malformed = 21
number_of Scales = 22
number_of Names = 23
number_of TooMany = 24
number_of TooLong = 25

-- how many bytes the sum takes, or the number that refuses it; and the output then
pub record Summed : Type 0 where
  pub answer : Result ℕ ℕ
  pub output : List ℕ

abbrev pub summed : Result ℕ ℕ → List ℕ → Summed
summed r out = record { answer = r; output = out }

-- the same by what the code answers
abbrev pub by_number : Result ℕ Why → Result ℕ ℕ
by_number = result_map_both (λ n. n) number_of

abbrev pub told_as : Result ℕ Why → List ℕ → Summed
told_as r out = summed (by_number r) out

-- the answer as a number, 0 where there is a sum
unfoldable pub sum_answer : Result ℕ ℕ → ℕ
sum_answer (Ok n) = 0
sum_answer (Err n) = n

-- the sum's text at the front of the output, the rest unchanged
abbrev pub into_output : Total → List ℕ → Summed
into_output (Text t) out = cond (leb (length t) (length out)) (summed (Ok (length t)) (written out 0 t)) (summed (Err 15) out)
into_output (Refusal n) out = summed (Err n) out

unfoldable pub add_into : List ℕ → List ℕ → List ℕ → Summed
add_into a b out = into_output (add_texts a b) out

-- what the caller has then: the sum's bytes at the front of the output, or a refusal
abbrev pub told_by : Result ℕ ℕ → List ℕ → Total
told_by (Ok n) out = Text (take n out)
told_by (Err n) out = Refusal n

abbrev pub told : Summed → Total
told x = told_by x.answer x.output

-- what two calls told, added by a third: a refusal stays
abbrev pub add_told : Total → Total → List ℕ → Total
add_told (Refusal n) y out = Refusal n
add_told (Text t) (Refusal n) out = Refusal n
add_told (Text t) (Text u) out = told (add_into t u out)

-- ---- sheets added by calls in some grouping, each call with an output of its own that is lent to it

pub data Calls : Type 0 where
  NoCall : List ℕ → Calls
  Call : Calls → Calls → List ℕ → Calls

abbrev pub grouping_of : Calls → Grouping
grouping_of (NoCall t) = Sheet t
grouping_of (Call x y out) = SumOfTwo (grouping_of x) (grouping_of y)

-- a sheet that no call adds is told where it may be added
abbrev pub calls_tell : Calls → Total
calls_tell (NoCall t) = alone t
calls_tell (Call x y out) = add_told (calls_tell x) (calls_tell y) out

-- "given room enough": each output has room for any sum
abbrev pub HaveRoom : Calls → Type 0
HaveRoom (NoCall t) = Unit {0}
HaveRoom (Call x y out) = HaveRoom x × (HaveRoom y × (sheet_most ≤ length out))

-- the numbers that adding gives: 0, 15 and 02's five
abbrev pub add_answers : List ℕ
add_answers = 0 ∷ 15 ∷ 21 ∷ 22 ∷ 23 ∷ 24 ∷ 25 ∷ []
