-- "The lowest number that applies wins", over any list of tests whose numbers are above 0 and increase: what is answered is the number
-- whose condition holds while none lower does, and 0 where no condition holds.
use mathlib.Core.Path.{◌≡◌, refl}
use mathlib.Core.Bool.{Bool, true, false, ◌&&◌, cond}
use mathlib.Core.Logic.{◌↔◌}
use mathlib.Core.List.{List, [], ◌∷◌}
use Prim.Native.Nat.{ℕ, ◌≤◌, ◌<◌}
use native.Mathlib.Omega.{arith}
use lib.Dec.{eqb, ltb}
use borrow.Author.Tests.{eq-eqb, ne_eqb, eqb-true, ltb-true}
use Rattle.text.proofs.Bools.{and_l, and_r, is_false, clash}
use Rattle.line.specs.Answer.{Test, test, lowest, holds, IsLowest}

-- the numbers are above b, and each is above the one before it
abbrev pub rising : ℕ → List Test → Bool
rising b [] = true
rising b (t ∷ ts) = ltb b t.number && rising t.number ts

-- ---- a number whose condition holds is at least the lowest

from_step : (b m n low : ℕ) (e a h : Bool) → eqb n m ≡ e → b < n → (h ≡ true → (n < low) × (low ≤ m)) → cond e a h ≡ true → (b < cond a n low) × (cond a n low ≤ m)
from_step b m n low true true h q lt ih p = let r = eqb-true n m q in omega arith
from_step b m n low true false h q lt ih p = let z : ◌≡◌ {A = ℕ} 0 1 = cc in omega arith
from_step b m n low false true h q lt ih p = let r = ih p in omega arith
from_step b m n low false false h q lt ih p = let r = ih p in omega arith

lowest_from : (b m : ℕ) (ts : List Test) → rising b ts ≡ true → holds m ts ≡ true → (b < lowest ts) × (lowest ts ≤ m)
lowest_from b m [] r p = let z : ◌≡◌ {A = ℕ} 0 1 = cc in omega arith
lowest_from b m (t ∷ ts) r p =
    let n = t.number in
    from_step b m n (lowest ts) (eqb n m) t.applies (holds m ts) refl (ltb-true b n (and_l (ltb b n) (rising n ts) r)) (lowest_from n m ts (and_r (ltb b n) (rising n ts) r)) p

-- ---- the condition of the lowest holds

holds_step : (a : Bool) (n : ℕ) (ts : List Test) → rising n ts ≡ true → (0 < lowest ts → holds (lowest ts) ts ≡ true) → 0 < cond a n (lowest ts) → holds (cond a n (lowest ts)) (test n a ∷ ts) ≡ true
holds_step true n ts r ih p = rw (eq-eqb n n refl)
holds_step false n ts r ih p = let l = lowest_from n (lowest ts) ts r (ih p) in rw (ne_eqb n (lowest ts) (λ q. omega arith)) (ih p)

lowest_holds : (b : ℕ) (ts : List Test) → rising b ts ≡ true → 0 < lowest ts → holds (lowest ts) ts ≡ true
lowest_holds b [] r p = absurd (omega arith)
lowest_holds b (t ∷ ts) r p = let s = and_r (ltb b t.number) (rising t.number ts) r in holds_step t.applies t.number ts s (lowest_holds t.number ts s) p

-- ---- both together

module _ (ts : List Test) (r : rising 0 ts ≡ true) where
  -- a number whose condition holds while none lower does is the lowest
  only : (n : ℕ) → IsLowest ts n → lowest ts ≡ n
  only n w =
      let p = lowest_from 0 n ts r w.0 in
      let q : lowest ts < n → ⊥ = λ lt. clash (holds (lowest ts) ts) (lowest_holds 0 ts r p.0) (w.1 (lowest ts) lt) in
      omega arith

  pub lowest_exactly : (n : ℕ) → 0 < n → (lowest ts ≡ n) ↔ IsLowest ts n
  lowest_exactly n pos = (
    λ e. (rw e at (lowest_holds 0 ts r (omega arith)), λ m lt. is_false (holds m ts) (λ h. omega (arith, lowest_from 0 m ts r h))),
    only n,
  )

  -- a positive one holds, so there is none
  zero_only : ((m : ℕ) → holds m ts ≡ false) → lowest ts ≡ 0
  zero_only none = let q : 0 < lowest ts → ⊥ = λ lt. clash (holds (lowest ts) ts) (lowest_holds 0 ts r lt) (none (lowest ts)) in omega arith

  pub lowest_none : (lowest ts ≡ 0) ↔ ((m : ℕ) → holds m ts ≡ false)
  lowest_none = (λ e m. is_false (holds m ts) (λ h. omega (arith, lowest_from 0 m ts r h)), zero_only)

-- ---- any list of tests: what holds of 0 and of the number of each holds of the lowest that applies

abbrev pub EachNumber : (ℕ → Type 0) → List Test → Type 0
EachNumber P [] = Unit {0}
EachNumber P (t ∷ ts) = P t.number × EachNumber P ts

pub lowest_has : (P : ℕ → Type 0) (ts : List Test) → P 0 → EachNumber P ts → P (lowest ts)
lowest_has P [] z f = z
lowest_has P (t ∷ ts) z f = by_test t.applies (lowest_has P ts z f.1)
  where
    by_test : (b : Bool) → P (lowest ts) → P (cond b t.number (lowest ts))
    by_test true r = f.0
    by_test false r = r
