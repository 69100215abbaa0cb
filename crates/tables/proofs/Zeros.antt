-- A fresh start: tables of zeros, and what `fresh` answers.
use mathlib.Core.Path.{◌≡◌, refl, ap}
use mathlib.Core.Bool.{Bool, true, false, cond}
use mathlib.Core.List.{List}
use mathlib.Core.Logic.{◌⊎◌, inl, inr, ⊎_elim}
use Prim.Native.Nat.{ℕ, zero, suc}
use native.Mathlib.Omega.{arith}
use lib.ListN.{length, get_or, replicate, length-replicate}
use Rattle.tables.specs.Entry.{names_size, nums_size, ticks_size}
use Rattle.tables.specs.Sized.{is_sized}
use Rattle.tables.specs.Fresh.{Cleared, cleared, cleared_of}
use Rattle.tables.proofs.Sizes.{sizes_mean}

-- ---- tables of zeros

abbrev pub zeros : ℕ → List ℕ
zeros n = replicate n 0

pub entry_zero : (n i : ℕ) → get_or (zeros n) i 0 ≡ 0
entry_zero zero i = refl
entry_zero (suc n) zero = refl
entry_zero (suc n) (suc i) = entry_zero n i

pub length_zeros : (n : ℕ) → length (zeros n) ≡ n
length_zeros n = length-replicate n 0

-- ---- what `fresh` answers: 0 and tables of zeros, or 15 and the tables as they were

either : {A : Type 0} (b : Bool) (x y : A) → (cond b x y ≡ x) ⊎ (cond b x y ≡ y)
either true x y = inl refl
either false x y = inr refl

module _ (names nums ticks : List ℕ) where
  -- the tables zeroed one after the other
  pub clear_all : (a b d : List ℕ) → is_sized (length names) (length nums) (length ticks) ≡ true → a ≡ zeros (length names) → b ≡ zeros (length nums) → d ≡ zeros (length ticks)
      → cleared 0 a b d ≡ cleared_of names nums ticks
  unfolding cleared_of
  clear_all a b d e p q r =
      let s = (sizes_mean names nums ticks).holds e in
      rw (e, p, q, r, s.names_sized, s.nums_sized, s.ticks_sized)

  pub clear_answers : (cleared_of names nums ticks ≡ cleared 0 (zeros names_size) (zeros nums_size) (zeros ticks_size)) ⊎ (cleared_of names nums ticks ≡ cleared 15 names nums ticks)
  unfolding cleared_of
  clear_answers =
      either (is_sized (length names) (length nums) (length ticks))
      (cleared 0 (zeros names_size) (zeros nums_size) (zeros ticks_size))
      (cleared 15 names nums ticks)

  pub clear_kept : (cleared_of names nums ticks).answer ≡ 15 → cleared_of names nums ticks ≡ cleared 15 names nums ticks
  clear_kept e = ⊎_elim (λ z. absurd (omega (arith, ap (λ (c : Cleared). c.answer) z))) (λ z. z) clear_answers
