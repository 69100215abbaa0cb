-- Laws of creation dates: what `fits_pattern` is by a test of each byte, that what fits a pattern has its length, and the table of the months' days.
use mathlib.Core.Path.{◌≡◌, refl, ap, sym}
use mathlib.Core.Bool.{Bool, true, false, ◌&&◌, cond}
use mathlib.Core.List.{List, [], ◌∷◌}
use Prim.Native.Nat.{ℕ, zero, suc, ◌<◌}
use native.Mathlib.Nat.{suc-ne-zero}
use native.Mathlib.Omega.{arith}
use Rattle.std.specs.List.{list_all, zip}
use lib.ListN.{length, get_or, get_or-eq_default}
use Rattle.text.proofs.Bools.{and_r, is_false}
use Rattle.forms.specs.Date.{fits_byte, fits_pattern, is_leap, days_in}

-- ---- a pattern

pub fits_length : (s p : List ℕ) → fits_pattern s p ≡ true → length s ≡ length p
unfolding fits_pattern
fits_length [] [] e = refl
fits_length [] (y ∷ p) e = cc
fits_length (x ∷ s) [] e = cc
fits_length (x ∷ s) (y ∷ p) e = ap suc (fits_length s p (and_r (fits_byte x y) (fits_pattern s p) e))

pub fits_other : (s p : List ℕ) → (length s ≡ length p → ⊥) → fits_pattern s p ≡ false
fits_other s p h = is_false (fits_pattern s p) (λ e. h (fits_length s p e))

-- by a test of each byte and the pattern's byte at its place
pub fits_zip : (s p : List ℕ) → length s ≡ length p → list_all (λ (q : ℕ × ℕ). fits_byte q.0 q.1) (zip s p) ≡ fits_pattern s p
unfolding fits_pattern
fits_zip [] [] e = refl
fits_zip [] (y ∷ p) e = absurd (suc-ne-zero _ (sym e))
fits_zip (x ∷ s) [] e = absurd (suc-ne-zero _ e)
fits_zip (x ∷ s) (y ∷ p) e = let h : length s ≡ length p = omega arith in rw (fits_zip s p h)

-- ---- the calendar

pub and_true : (b : Bool) → b && true ≡ b
and_true true = refl
and_true false = refl

-- the definition's table, with the days of February
abbrev days : ℕ → List ℕ
days february = 0 ∷ 31 ∷ february ∷ 31 ∷ 30 ∷ 31 ∷ 30 ∷ 31 ∷ 31 ∷ 30 ∷ 31 ∷ 30 ∷ 31 ∷ []

pub no_month : (y m : ℕ) → 12 < m → days_in y m ≡ 0
unfolding days_in
no_month y m h = get_or-eq_default (days (cond (is_leap y) 29 28)) 0 h

-- the days of each month but February do not depend on the year
pub other_month : (y m : ℕ) → (m ≡ 2 → ⊥) → get_or (days 28) m 0 ≡ days_in y m
unfolding days_in
other_month y zero n = refl
other_month y (suc zero) n = refl
other_month y (suc (suc zero)) n = absurd (n refl)
other_month y (suc (suc (suc m))) n = refl
