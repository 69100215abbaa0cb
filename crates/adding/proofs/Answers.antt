-- What adding answers, whatever bytes it is handed: one of its numbers, and where that is not 0 the output is as it was.
use Rattle.std.proofs.Common.{Option, None, Some}
use mathlib.Core.Path.{◌≡◌, refl}
use mathlib.Core.Bool.{Bool, true, false, not, cond}
use mathlib.Core.List.{List}
use Prim.Native.Nat.{ℕ, zero, suc, ◌+◌}
use lib.Dec.{eqb, leb, ltb}
use lib.ListN.{length}
use Rattle.text.specs.Put.{written}
use Rattle.text.specs.Sizes.{max_time}
use Rattle.text.specs.Lists.{any}
use Rattle.bill.specs.Reading.{Bill}
use Rattle.shifts.specs.Sound.{too_many, sound_sheet}
use Rattle.shifts.specs.Sum.{sum, clash, refusal, Total, Text, Refusal, total_by, add_sound, add_texts}
use Rattle.std.specs.declared.result.Result.TheVariants.{Ok, Err}
use Rattle.adding.specs.Adding.{Summed, summed, sum_answer, into_output, add_into, add_answers}

abbrev is_one : ℕ → Bool
is_one n = any (eqb n) add_answers

-- a total is a text, or refused by one of the numbers
abbrev Numbered : Total → Type 0
Numbered (Text t) = Unit {0}
Numbered (Refusal n) = is_one n ≡ true

by_number : (n : ℕ) (b : Bill) → is_one n ≡ true → Numbered (total_by n b)
by_number zero b e = tt
by_number (suc n) b e = e

refusal_numbered : (a b : Bill) → is_one (refusal a b) ≡ true
unfolding refusal
refusal_numbered a b =
    go (not (eqb a.scale b.scale)) (clash a b) (too_many (sum a b).sheet.cores (sum a b).sheet.processes) (ltb max_time (a.sheet.span + b.sheet.span))
  where
    go : (p q r s : Bool) → is_one (cond p 22 (cond q 23 (cond r 24 (cond s 25 0)))) ≡ true
    go true q r s = refl
    go false true r s = refl
    go false false true s = refl
    go false false false true = refl
    go false false false false = refl

total_numbered : (t u : List ℕ) → Numbered (add_texts t u)
unfolding add_texts
total_numbered t u = go (sound_sheet t) (sound_sheet u)
  where
    go : (o p : Option Bill) → Numbered (add_sound o p)
    go None p = refl
    go (Some a) None = refl
    go (Some a) (Some b) = by_number (refusal a b) (sum a b) (refusal_numbered a b)

-- ---- into any output

abbrev Spared : Summed → List ℕ → Type 0
Spared x out = (is_one (sum_answer x.answer) ≡ true) × ((sum_answer x.answer ≡ 0 → ⊥) → x.output ≡ out)

into : (x : Total) (out : List ℕ) → Numbered x → Spared (into_output x out) out
unfolding sum_answer
into (Text t) out e = go (leb (length t) (length out))
  where
    go : (b : Bool) → Spared (cond b (summed (Ok (length t)) (written out 0 t)) (summed (Err 15) out)) out
    go true = (refl, λ h. absurd (h refl))
    go false = (refl, λ h. refl)
into (Refusal n) out e = (e, λ h. refl)

pub add_gives : (a b out : List ℕ) → any (eqb (sum_answer (add_into a b out).answer)) add_answers ≡ true
unfolding add_into
add_gives a b out = (into (add_texts a b) out (total_numbered a b)).0

pub add_spares : (a b out : List ℕ) → (sum_answer (add_into a b out).answer ≡ 0 → ⊥) → (add_into a b out).output ≡ out
unfolding add_into
add_spares a b out = (into (add_texts a b) out (total_numbered a b)).1
