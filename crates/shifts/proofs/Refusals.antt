-- Each refusal exactly when its condition holds and none before it: 22 to 25 of two sound bills, none exactly if they may be added, and 21 of texts.
use Rattle.std.proofs.Common.{Option, None, Some}
use mathlib.Core.Path.{◌≡◌, refl}
use mathlib.Core.Bool.{Bool, true, false, not, cond}
use mathlib.Core.Logic.{◌⊎◌, inl, inr, ⊎_elim, ◌↔◌}
use mathlib.Core.List.{List, [], ◌∷◌}
use Prim.Native.Nat.{ℕ, zero, suc, ◌+◌, ◌≤◌, ◌<◌}
use native.Mathlib.Omega.{arith}
use lib.Dec.{eqb, ltb}
use borrow.Author.Tests.{ltb-false, le-ltb}
use Rattle.text.specs.Sizes.{max_time}
use Rattle.bill.specs.Reading.{Bill, bill_text}
use Rattle.shifts.specs.Sound.{too_many, sound_sheet}
use Rattle.shifts.specs.Sum.{sum, clash, refusal, Text, Refusal, total_by, add_sound, add_texts}
use Rattle.shifts.proofs.Fine.{AllFail, equal, no_other}

-- ---- conditions whose numbers count up from n: the number of the first that holds, 0 where none does

abbrev numbered : ℕ → List Bool → ℕ
numbered n [] = 0
numbered n (b ∷ bs) = cond b n (numbered (suc n) bs)

-- condition k, counted from 0, holds, and none before it
abbrev pub FirstAt : ℕ → List Bool → Type 0
FirstAt k [] = ⊥
FirstAt zero (b ∷ bs) = b ≡ true
FirstAt (suc k) (b ∷ bs) = (b ≡ false) × FirstAt k bs

numbered_from : (n : ℕ) (bs : List Bool) → (numbered n bs ≡ 0) ⊎ (n ≤ numbered n bs)
numbered_from n [] = inl refl
numbered_from n (true ∷ bs) = inr (omega arith)
numbered_from n (false ∷ bs) = go (numbered_from (suc n) bs)
  where
    go : (numbered (suc n) bs ≡ 0) ⊎ (suc n ≤ numbered (suc n) bs) → (numbered (suc n) bs ≡ 0) ⊎ (n ≤ numbered (suc n) bs)
    go (inl e) = inl e
    go (inr h) = inr (omega arith)

first_there : (n k : ℕ) (bs : List Bool) → 0 < n → numbered n bs ≡ n + k → FirstAt k bs
first_there n k [] pos e = absurd (omega arith)
first_there n zero (true ∷ bs) pos e = refl
first_there n zero (false ∷ bs) pos e = absurd (⊎_elim (λ z. omega arith) (λ h. omega arith) (numbered_from (suc n) bs))
first_there n (suc k) (true ∷ bs) pos e = absurd (omega arith)
first_there n (suc k) (false ∷ bs) pos e = (refl, first_there (suc n) k bs (omega arith) (omega arith))

there_first : (n k : ℕ) (bs : List Bool) → FirstAt k bs → numbered n bs ≡ n + k
there_first n k [] f = absurd f
there_first n zero (b ∷ bs) f = rw f (omega arith)
there_first n (suc k) (b ∷ bs) f = rw f.0 (omega (arith, there_first (suc n) k bs f.1))

none_there : (n : ℕ) (bs : List Bool) → 0 < n → numbered n bs ≡ 0 → AllFail bs
none_there n [] pos e = tt
none_there n (true ∷ bs) pos e = absurd (omega arith)
none_there n (false ∷ bs) pos e = (refl, none_there (suc n) bs (omega arith) e)

-- ---- two sound bills

-- "scales differ; a name a core in one and a process in the other; more than 64 cores or 256 names; summed span above 2^56 − 1", from 22 on
abbrev pub conditions : Bill → Bill → List Bool
conditions a b =
    not (eqb a.scale b.scale) ∷ clash a b ∷ too_many (sum a b).sheet.cores (sum a b).sheet.processes
    ∷ ltb max_time (a.sheet.span + b.sheet.span) ∷ []

-- no condition holds
pub record Addable (a b : Bill) : Type 0 where
  pub scales : a.scale ≡ b.scale
  pub apart : clash a b ≡ false
  pub few : too_many (sum a b).sheet.cores (sum a b).sheet.processes ≡ false
  pub short : a.sheet.span + b.sheet.span ≤ max_time

module _ (a b : Bill) where
  pub refused_exactly : (k : ℕ) → (refusal a b ≡ 22 + k) ↔ FirstAt k (conditions a b)
  unfolding refusal
  refused_exactly k = (first_there 22 k (conditions a b) (omega arith), there_first 22 k (conditions a b))

  -- and never by another number
  pub refused_from : (refusal a b ≡ 0) ⊎ (22 ≤ refusal a b)
  unfolding refusal
  refused_from = numbered_from 22 (conditions a b)

  pub addable_exactly : (refusal a b ≡ 0) ↔ Addable a b
  unfolding refusal
  addable_exactly = (there, none_refused)
    where
      there : refusal a b ≡ 0 → Addable a b
      there e =
          let w = none_there 22 (conditions a b) (omega arith) e in
          record {
            scales = equal a.scale b.scale w.0;
            apart = w.1.0;
            few = w.1.1.0;
            short = ltb-false max_time (a.sheet.span + b.sheet.span) w.1.1.1.0;
          }

      none_refused : Addable a b → refusal a b ≡ 0
      none_refused k = rw (no_other a.scale b.scale k.scales, k.apart, k.few, le-ltb max_time (a.sheet.span + b.sheet.span) k.short)

-- ---- two texts

by_number : (n m : ℕ) (s : Bill) → total_by n s ≡ Refusal m → n ≡ m
by_number zero m s e = cc
by_number (suc n) m s e = cc

module _ (t u : List ℕ) where
  -- "malformed, or a core's three figures not making the span, or charges not making all held ticks", of either
  pub unsound_exactly : (add_texts t u ≡ Refusal 21) ↔ ((sound_sheet t ≡ None) ⊎ (sound_sheet u ≡ None))
  unfolding add_texts
  unsound_exactly = (there (sound_sheet t) (sound_sheet u), back (sound_sheet t) (sound_sheet u))
    where
      there : (o p : Option Bill) → add_sound o p ≡ Refusal 21 → (o ≡ None) ⊎ (p ≡ None)
      there None p e = inl refl
      there (Some a) None e = inr refl
      there (Some a) (Some b) e = let z = by_number (refusal a b) 21 (sum a b) e in absurd (⊎_elim (λ w. omega arith) (λ w. omega arith) (refused_from a b))

      back : (o p : Option Bill) → (o ≡ None) ⊎ (p ≡ None) → add_sound o p ≡ Refusal 21
      back None p h = refl
      back (Some a) None h = refl
      back (Some a) (Some b) (inl e) = cc
      back (Some a) (Some b) (inr e) = cc

  module _ (a b : Bill) (s : sound_sheet t ≡ Some a) (r : sound_sheet u ≡ Some b) where
    pub text_exactly : (add_texts t u ≡ Text (bill_text (sum a b))) ↔ (refusal a b ≡ 0)
    unfolding add_texts
    text_exactly = rw (s, r) (there (refusal a b), λ e. rw e)
      where
        there : (n : ℕ) → total_by n (sum a b) ≡ Text (bill_text (sum a b)) → n ≡ 0
        there zero e = refl
        there (suc n) e = cc

    pub refusal_exactly : (n : ℕ) → 0 < n → (add_texts t u ≡ Refusal n) ↔ (refusal a b ≡ n)
    unfolding add_texts
    refusal_exactly n pos = rw (s, r) (by_number (refusal a b) n (sum a b), λ e. rw e (told n pos))
      where
        told : (n : ℕ) → 0 < n → total_by n (sum a b) ≡ Refusal n
        told zero pos = absurd (omega arith)
        told (suc n) pos = refl
