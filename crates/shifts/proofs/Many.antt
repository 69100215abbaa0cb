-- Many sheets added from the left: a refusal stays, no refusal is below 21, a sum is a sheet that may be added, and of a longer text than any sheet the
-- rest does not matter.
use Rattle.std.proofs.Common.{Option, None, Some, is_some}
use mathlib.Core.Path.{◌≡◌, refl, ap}
use mathlib.Core.Bool.{Bool, true, false}
use mathlib.Core.Logic.{◌⊎◌, inl, inr}
use mathlib.Core.List.{List, [], ◌∷◌, ◌++◌}
use Prim.Native.Nat.{ℕ, zero, suc, ◌≤◌, ◌<◌}
use native.Mathlib.Omega.{arith}
use lib.ListN.{length, take, length-take}
use Rattle.bill.specs.Reading.{Bill, bill_text}
use Rattle.shifts.specs.Sound.{sound_sheet}
use Rattle.shifts.specs.Sum.{sum, refusal, Total, Text, Refusal, total_by, add_sound, add_texts, add_next, add_all}
use Rattle.shifts.specs.Sizes.{sheet_most}
use Rattle.shifts.specs.Many.{is_sound, text_if, alone, sum_from, HasText}
use Rattle.shifts.proofs.Fine.{Fine, sound_is, fine_printed}
use Rattle.shifts.proofs.Refusals.{refused_from}
use Rattle.shifts.proofs.Sizes.{sound_longest}
use Rattle.shifts.proofs.Totals.{sum_fine}

never_text : {n : ℕ} {t : List ℕ} → Refusal n ≡ Text t → ⊥
never_text {n} {t} e = let z : ◌≡◌ {A = ℕ} 0 1 = cc in omega arith

-- ---- from the left

pub stays : (n : ℕ) (us : List (List ℕ)) → add_all (Refusal n) us ≡ Refusal n
stays n [] = refl
stays n (u ∷ us) = stays n us

pub add_more : (x : Total) (us vs : List (List ℕ)) → add_all x (us ++ vs) ≡ add_all (add_all x us) vs
add_more x [] vs = refl
add_more x (u ∷ us) vs = add_more (add_next x u) us vs

-- where some have a sum, fewer of them have one
none_yet : (x : Total) (us : List (List ℕ)) → HasText (add_all x us) → HasText x
none_yet (Text t) us h = tt
none_yet (Refusal n) us h = rw (stays n us) at h

pub fewer : (x : Total) (us : List (List ℕ)) (j : ℕ) → HasText (add_all x us) → HasText (add_all x (take j us))
fewer x [] zero h = h
fewer x [] (suc j) h = h
fewer x (u ∷ us) zero h = none_yet x (u ∷ us) h
fewer x (u ∷ us) (suc j) h = fewer (add_next x u) us j h

-- ---- what holds of each sum of two, and of the start, holds of all

module _ (P : Total → Type 0) (two : (t u : List ℕ) → P (add_texts t u)) where
  of_next : (x : Total) (u : List ℕ) → P x → P (add_next x u)
  of_next (Text t) u h = two t u
  of_next (Refusal n) u h = h

  of_all : (x : Total) (us : List (List ℕ)) → P x → P (add_all x us)
  of_all x [] h = h
  of_all x (u ∷ us) h = of_all (add_next x u) us (of_next x u h)

  -- the start is a sheet by itself
  from_alone : (t : List ℕ) (us : List (List ℕ)) → (is_sound t ≡ true → P (Text t)) → P (Refusal 21) → P (sum_from t us)
  unfolding alone
  from_alone t us h k = of_all (alone t) us (by_test (is_sound t) refl)
    where
      by_test : (b : Bool) → is_sound t ≡ b → P (text_if b t)
      by_test true e = h e
      by_test false e = k

-- ---- the numbers: 21 and more

abbrev From21 : Total → Type 0
From21 (Text t) = Unit {0}
From21 (Refusal n) = 21 ≤ n

two_from : (t u : List ℕ) → From21 (add_texts t u)
unfolding add_texts
two_from t u = by_bills (sound_sheet t) (sound_sheet u)
  where
    by_number : (n : ℕ) (s : Bill) → (n ≡ 0) ⊎ (22 ≤ n) → From21 (total_by n s)
    by_number zero s h = tt
    by_number (suc n) s (inl e) = absurd (omega arith)
    by_number (suc n) s (inr h) = omega arith

    by_bills : (o p : Option Bill) → From21 (add_sound o p)
    by_bills None p = omega arith
    by_bills (Some a) None = omega arith
    by_bills (Some a) (Some b) = by_number (refusal a b) (sum a b) (refused_from a b)

pub from_21 : (t : List ℕ) (us : List (List ℕ)) {n : ℕ} → sum_from t us ≡ Refusal n → 21 ≤ n
from_21 t us e = rw e at (from_alone From21 two_from t us (λ s. tt) (omega arith))

-- ---- a sum may be added, so it is no longer than a sheet

module _ (a b : Bill) (f : Fine a) (g : Fine b) where
  pub sum_sound : refusal a b ≡ 0 → sound_sheet (bill_text (sum a b)) ≡ Some (sum a b)
  sum_sound e = fine_printed (sum a b) (sum_fine a b f g e)

pub sum_short : (t u v : List ℕ) → add_texts t u ≡ Text v → length v ≤ sheet_most
unfolding add_texts
sum_short t u v = by_bills (sound_sheet t) (sound_sheet u) refl refl
  where
    by_number : (a b : Bill) (n : ℕ) → sound_sheet t ≡ Some a → sound_sheet u ≡ Some b → refusal a b ≡ n → total_by n (sum a b) ≡ Text v → length v ≤ sheet_most
    by_number a b zero r s q e =
        let same : bill_text (sum a b) ≡ v = cc in
        rw same at (sound_longest (bill_text (sum a b)) (sum a b) (sum_sound a b (sound_is t a r).1 (sound_is u b s).1 q))
    by_number a b (suc n) r s q e = absurd (never_text e)

    by_bills : (o p : Option Bill) → sound_sheet t ≡ o → sound_sheet u ≡ p → add_sound o p ≡ Text v → length v ≤ sheet_most
    by_bills None p r s e = absurd (never_text e)
    by_bills (Some a) None r s e = absurd (never_text e)
    by_bills (Some a) (Some b) r s e = by_number a b (refusal a b) r s refl e

bill_short : (t : List ℕ) (o : Option Bill) → sound_sheet t ≡ o → is_some o ≡ true → length t ≤ sheet_most
bill_short t None r e = let z : ◌≡◌ {A = ℕ} 0 1 = cc in absurd (omega arith)
bill_short t (Some b) r e = sound_longest t b r

pub sound_short : (t : List ℕ) → is_sound t ≡ true → length t ≤ sheet_most
unfolding is_sound
sound_short t e = bill_short t (sound_sheet t) refl e

-- every text that the sheets come to is one
abbrev Short : Total → Type 0
Short (Text t) = length t ≤ sheet_most
Short (Refusal n) = Unit {0}

two_short : (t u : List ℕ) → Short (add_texts t u)
two_short t u = by_total (add_texts t u) refl
  where
    by_total : (x : Total) → add_texts t u ≡ x → Short x
    by_total (Text v) e = sum_short t u v e
    by_total (Refusal n) e = tt

pub total_short : (t : List ℕ) (us : List (List ℕ)) {v : List ℕ} → sum_from t us ≡ Text v → length v ≤ sheet_most
total_short t us e = rw e at (from_alone Short two_short t us (sound_short t) tt)

-- ---- the first by itself

pub add_alone : (t u : List ℕ) → add_next (alone t) u ≡ add_texts t u
unfolding alone is_sound add_texts
add_alone t u = by_bill (sound_sheet t) refl
  where
    by_bill : (o : Option Bill) → sound_sheet t ≡ o → add_next (text_if (is_some o) t) u ≡ add_sound o (sound_sheet u)
    by_bill None r = refl
    by_bill (Some a) r = rw r

pub all_added : (t u : List ℕ) (us : List (List ℕ)) → sum_from t (u ∷ us) ≡ add_all (Text t) (u ∷ us)
all_added t u us = ap (λ (x : Total). add_all x us) (add_alone t u)

-- ---- of a text that is longer than any sheet, the rest does not matter

-- a text u that was read as t: all of it, or where t is longer than any sheet, only its beginning
abbrev pub ReadAs : List ℕ → List ℕ → Type 0
ReadAs t u = (u ≡ t) ⊎ ((sheet_most < length t) × (take (length t) u ≡ t))

unsound_long : (t : List ℕ) → sheet_most < length t → sound_sheet t ≡ None
unsound_long t h = by_bill (sound_sheet t) refl
  where
    by_bill : (o : Option Bill) → sound_sheet t ≡ o → o ≡ None
    by_bill None r = refl
    by_bill (Some b) r = absurd (omega (arith, sound_longest t b r))

neither : (t u : List ℕ) → sheet_most < length t → take (length t) u ≡ t → (sound_sheet u ≡ None) × (sound_sheet t ≡ None)
neither t u h e = (unsound_long u (omega (arith, ap length e, length-take (length t) u)), unsound_long t h)

same_alone : (t u : List ℕ) → ReadAs t u → alone u ≡ alone t
unfolding alone is_sound
same_alone t u (inl e) = ap alone e
same_alone t u (inr h) = let w = neither t u h.0 h.1 in rw (w.0, w.1)

same_next : (x : Total) (t u : List ℕ) → ReadAs t u → add_next x u ≡ add_next x t
unfolding add_texts
same_next (Text s) t u (inl e) = ap (add_texts s) e
same_next (Text s) t u (inr h) = let w = neither t u h.0 h.1 in rw (w.0, w.1)
same_next (Refusal n) t u r = refl

pub data AllReadAs : List (List ℕ) → List (List ℕ) → Type 0 where
  none_left : AllReadAs [] []
  one_more : {t u : List ℕ} {ts us : List (List ℕ)} → ReadAs t u → AllReadAs ts us → AllReadAs (t ∷ ts) (u ∷ us)

same_all : (x : Total) {ts us : List (List ℕ)} → AllReadAs ts us → add_all x us ≡ add_all x ts
same_all x none_left = refl
same_all x (one_more {t} {u} r w) = rw (same_next x t u r) (same_all (add_next x t) w)

pub same_sum : (t u : List ℕ) {ts us : List (List ℕ)} → ReadAs t u → AllReadAs ts us → sum_from u us ≡ sum_from t ts
same_sum t u r w = rw (same_alone t u r) (same_all (alone t) w)
