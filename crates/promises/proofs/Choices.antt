-- What is chosen by a test: laws of tests and of `cond`, whatever they test and choose.
use mathlib.Core.Path.{◌≡◌, refl, sym}
use mathlib.Core.Bool.{Bool, true, false, ◌&&◌, ◌||◌, cond, and-false}
use Prim.Native.Nat.{ℕ}
use lib.Dec.{eqb}
use borrow.Author.Tests.{eq-eqb, eqb-true, eqb-false, ne_eqb}

-- either of two tests passes
pub either_true : (a b : Bool) (P : Type 0) → (a ≡ true → P) → (b ≡ true → P) → a || b ≡ true → P
either_true true b P f g q = f refl
either_true false b P f g q = g q

-- what comes after a test matters only where it passes
pub where_true : (b x y : Bool) → (b ≡ true → x ≡ y) → b && x ≡ b && y
where_true true x y f = f refl
where_true false x y f = refl

-- and what comes before one matters only where the other does not say it too
pub implied_first : (b x : Bool) → (x ≡ true → b ≡ true) → b && x ≡ x
implied_first b true f = rw (f refl)
implied_first b false f = and-false b

-- a choice between two that are the same
pub same_choice : {A : Type 0} (b : Bool) (x : A) → cond b x x ≡ x
same_choice true x = refl
same_choice false x = refl

-- and one whose first matters only where the test passes
pub first_choice : {A : Type 0} (b : Bool) (x y z : A) → (b ≡ true → x ≡ y) → cond b x z ≡ cond b y z
first_choice true x y z f = f refl
first_choice false x y z f = refl

-- a test of two numbers, turned round
pub eqb_turned : (m n : ℕ) → eqb m n ≡ eqb n m
eqb_turned m n = by_test (eqb m n) refl
  where
    by_test : (b : Bool) → eqb m n ≡ b → b ≡ eqb n m
    by_test true q = sym (eq-eqb n m (sym (eqb-true m n q)))
    by_test false q = sym (ne_eqb n m (λ e. eqb-false m n q (sym e)))
