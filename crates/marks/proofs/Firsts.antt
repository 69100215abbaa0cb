-- A search, for any test: the steps that code takes, and what was found.
use Rattle.std.proofs.Common.{◌≡◌, ℕ, suc, ◌+◌, ◌-◌, ◌<◌, ◌≤◌, Bool, true, false, cond, leb, sym, refl, ap, subst, ⊎_elim, add-zero, add-suc, suc-add, eq-or-lt_of_le, add-one, arith, leb-false, leb-true, Option, None, Some}
use lib.Dec.{leb-suc-suc, leb-suc-zero}
use Rattle.text.proofs.Bools.{lt_or_ge, clash}
use Rattle.marks.specs.First.{before, first_of}
use Rattle.marks.proofs.Before.{found, missed}

-- of the numbers from i on, one less is left
one_less : (i n : ℕ) → i < n → n - i ≡ suc (n - (i + 1))
one_less i n h = omega arith

module _ (f : ℕ → Bool) where
  -- ---- the steps of a search, as code takes them

  pub first_hit : (i n : ℕ) → i < n → f i ≡ true → first_of f i (n - i) ≡ Some i
  unfolding first_of before
  first_hit i n h e = rw (one_less i n h, before, e, leb-suc-zero, add-zero)

  pub first_miss : (i n : ℕ) → i < n → f i ≡ false → first_of f i (n - i) ≡ first_of f (i + 1) (n - (i + 1))
  unfolding first_of before
  first_miss i n h e = rw (one_less i n h, before, e, add-one i, leb-suc-suc, add-suc, suc-add)

  pub first_end : (i n : ℕ) → n ≤ i → first_of f i (n - i) ≡ None
  unfolding first_of before
  first_end i n h = let e : n - i ≡ 0 = omega arith in rw (e, before)

  -- ---- what was found: the first of n numbers that passes, or none of them does

  abbrev First : ℕ → Option ℕ → Type 0
  First n (Some i) = (i < n) × (f i ≡ true) × ((k : ℕ) → k < i → f k ≡ false)
  First n None = (k : ℕ) → k < n → f k ≡ false

  first : (n : ℕ) → First n (first_of f 0 n)
  unfolding first_of
  first n = by_test (leb n (before f 0 n)) refl
    where
      by_test : (b : Bool) → leb n (before f 0 n) ≡ b → First n (cond b None (Some (0 + before f 0 n)))
      by_test true t = λ k h. missed f 0 n k (omega arith) (omega (arith, leb-true n (before f 0 n) t))
      by_test false t = let l = leb-false n (before f 0 n) t in (omega arith, found f 0 n l, λ k h. missed f 0 n k (omega arith) h)

  pub first_at : (n i : ℕ) → first_of f 0 n ≡ Some i → (i < n) × (f i ≡ true) × ((k : ℕ) → k < i → f k ≡ false)
  first_at n i e = subst (First n) e (first n)

  pub first_none : (n : ℕ) → first_of f 0 n ≡ None → (k : ℕ) → k < n → f k ≡ false
  first_none n e = subst (First n) e (first n)

  -- the first that passes is the one found
  pub first_is : (n d : ℕ) → d < n → f d ≡ true → ((k : ℕ) → k < d → f k ≡ false) → first_of f 0 n ≡ Some d
  first_is n d h t b = by_found (first_of f 0 n) refl
    where
      by_found : (r : Option ℕ) → first_of f 0 n ≡ r → r ≡ Some d
      by_found None e = absurd (clash (f d) t (first_none n e d h))
      by_found (Some k) e =
          let a = first_at n k e in
          ⊎_elim (λ l. absurd (clash (f k) a.1 (b k l)))
          (λ g. ⊎_elim (λ q. ap Some (sym q)) (λ l. absurd (clash (f d) t (a.2 d l))) (eq-or-lt_of_le g)) (lt_or_ge k d)
