-- How tight the contract of adding is: no second answer, and wrong answers that it shuts out.
use mathlib.Core.Path.{◌≡◌, refl, sym, ap, ◌∙◌}
use mathlib.Core.Bool.{Bool, true, false, not, cond}
use mathlib.Core.List.{List, []}
use Prim.Native.Nat.{ℕ}
use lib.Dec.{eqb}
use Rattle.std.specs.declared.result.Result.{Result}
use Rattle.std.specs.declared.result.Result.TheVariants.{Ok, Err}
use lib.ListN.{get_or, replicate}
use Rattle.text.specs.Bytes.{same_bytes, starts_with}
use Rattle.text.specs.Pieces.{pieces}
use Rattle.text.specs.Put.{written}
use Rattle.text.proofs.Tight.{unique, ShutsOut, shut_out}
use Rattle.bill.specs.Reading.{head_exact, form_tests, read_sheet}
use Rattle.shifts.specs.Sound.{sound_sheet}
use Rattle.shifts.specs.Sum.{add_texts}
use Rattle.shifts.specs.Many.{is_sound}
use Rattle.shifts.proofs.Nothing.{nothing, nothing_sound, nothing_added}
use Rattle.adding.specs.declared.refusal.Refusal.{Refusal as Why}
use Rattle.adding.specs.declared.refusal.Refusal.TheVariants.{Output, Malformed, Scales, Names, TooMany, TooLong}
use Rattle.adding.specs.Adding.{number_of, Summed, summed, told_as, sum_answer, add_into}

pub add_unique : (a b out : List ℕ) (x y : Summed) → x ≡ add_into a b out → y ≡ add_into a b out → x ≡ y
add_unique a b = unique (add_into a b)

-- and of the code no second answer, since no two refusals have one number
abbrev why_by : ℕ → Why
why_by n = cond (eqb n 15) Output (cond (eqb n 21) Malformed (cond (eqb n 22) Scales (cond (eqb n 23) Names (cond (eqb n 24) TooMany TooLong))))

why_is : (r : Why) → why_by (number_of r) ≡ r
why_is Output = refl
why_is Malformed = refl
why_is Scales = refl
why_is Names = refl
why_is TooMany = refl
why_is TooLong = refl

abbrev answer_by : Result ℕ ℕ → Result ℕ Why
answer_by (Ok n) = Ok n
answer_by (Err n) = Err (why_by n)

answer_is : (r : Result ℕ Why) (out : List ℕ) → answer_by (told_as r out).answer ≡ r
answer_is (Ok n) out = refl
answer_is (Err r) out = ap Err (why_is r)

pub told_once : (r q : Result ℕ Why) (m n : List ℕ) → told_as r m ≡ told_as q n → r ≡ q
told_once r q m n e = sym (answer_is r m) ∙ ap (λ (x : Summed). answer_by x.answer) e ∙ answer_is q n

-- ---- the number of a refusal

pub number_unique : (r : Why) (x y : ℕ) → x ≡ number_of r → y ≡ number_of r → x ≡ y
number_unique = unique number_of

-- the output's behind the others
pub number_not_in_line : ShutsOut number_of (λ r. cond (eqb (number_of r) 15) 26 (number_of r))
number_not_in_line = shut_out (λ n. eqb n 15) Output refl refl

-- one for all
pub number_not_one : ShutsOut number_of (λ r. 21)
number_not_one = shut_out (λ n. eqb n 22) Scales refl refl

-- ---- what is put

abbrev adds : List ℕ × List ℕ × List ℕ → Summed
adds (a, b, out) = add_into a b out

abbrev blanks : ℕ → List ℕ
blanks n = replicate n 32

-- what is no sheet is refused, whatever else is done
pub add_not_everything : (g : List ℕ × List ℕ × List ℕ → Summed) → sum_answer (g ([], [], [])).answer ≡ 0 → ShutsOut adds g
unfolding add_into add_texts sound_sheet read_sheet form_tests head_exact starts_with same_bytes pieces sum_answer
add_not_everything g h = shut_out (λ x. eqb (sum_answer x.answer) 21) ([], [], []) refl (rw h)

-- and sheets are added
pub add_not_nothing : (g : List ℕ × List ℕ × List ℕ → Summed) → sum_answer (g (nothing, nothing, blanks 54)).answer ≡ 21 → ShutsOut adds g
unfolding add_into sum_answer
add_not_nothing g h = shut_out (λ x. eqb (sum_answer x.answer) 0) (nothing, nothing, blanks 54) (rw nothing_added) (rw h)

-- it says that there is a sum, and writes nothing
pub add_not_idle : ShutsOut adds (λ (a, b, out). summed (add_into a b out).answer out)
unfolding add_into written
add_not_idle = shut_out (λ x. eqb (get_or x.output 0 0) 118) (nothing, nothing, blanks 54) (rw nothing_added) refl

-- ---- one text

pub sound_unique : (t : List ℕ) (x y : Bool) → x ≡ is_sound t → y ≡ is_sound t → x ≡ y
sound_unique = unique is_sound

pub sound_not_everything : (g : List ℕ → Bool) → g [] ≡ true → ShutsOut is_sound g
unfolding is_sound sound_sheet read_sheet form_tests head_exact starts_with same_bytes pieces
sound_not_everything g h = shut_out not [] refl (rw h)

pub sound_not_nothing : (g : List ℕ → Bool) → g nothing ≡ false → ShutsOut is_sound g
sound_not_nothing g h = shut_out (λ b. b) nothing nothing_sound (rw h)
