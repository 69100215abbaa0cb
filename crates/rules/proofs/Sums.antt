-- Sums over lists, and lists that grow by what is new.
use mathlib.Core.Path.{◌≡◌, refl, sym, ap, subst, ◌∙◌}
use mathlib.Core.Bool.{Bool, true, false, ◌&&◌, ◌||◌, and-false, and-true}
use mathlib.Core.List.{List, [], ◌∷◌, ◌++◌}
use Prim.Native.Nat.{ℕ, ◌+◌, ◌*◌, ◌≤◌, ◌<◌}
use native.Mathlib.Nat.{suc-mul}
use native.Mathlib.Omega.{arith}
use lib.ListN.{length}
use Rattle.text.specs.Lists.{any, sum_over}
use Rattle.text.proofs.Bools.{clash}
use Rattle.text.proofs.Lists.{any_append, sum_append, sum_cong, sum_add}
use Rattle.rules.specs.Lists.{only, keep, one_if, add_unless, add_new, add_all}

or_false : (a b : Bool) → b ≡ false → a || (b || false) ≡ a
or_false true b q = refl
or_false false b q = rw q

module _ {A : Type 0} where
  pub sum_zero : (xs : List A) → sum_over (λ (x : A). 0) xs ≡ 0
  sum_zero [] = refl
  sum_zero (x ∷ xs) = omega (arith, sum_zero xs)

  pub sum_at_most : (f : A → ℕ) (m : ℕ) (xs : List A) → ((x : A) → f x ≤ m) → sum_over f xs ≤ length xs * m
  sum_at_most f m [] q = omega arith
  sum_at_most f m (x ∷ xs) q = rw (suc-mul (length xs) m) (omega (arith, q x, sum_at_most f m xs q))

  -- how many pass a test
  length_only : (p : A → Bool) (xs : List A) → length (only p xs) ≡ sum_over (λ x. one_if (p x)) xs
  length_only p [] = refl
  length_only p (x ∷ xs) = by_test (p x) (length_only p xs)
    where
      by_test : (b : Bool) → length (only p xs) ≡ sum_over (λ y. one_if (p y)) xs → length (keep b x (only p xs)) ≡ one_if b + sum_over (λ y. one_if (p y)) xs
      by_test true q = omega (arith, q)
      by_test false q = omega (arith, q)

  pub only_less : (p : A → Bool) (xs : List A) → length (only p xs) ≤ length xs
  only_less p [] = omega arith
  only_less p (x ∷ xs) = by_test (p x) (only_less p xs)
    where
      by_test : (b : Bool) → length (only p xs) ≤ length xs → length (keep b x (only p xs)) ≤ length (x ∷ xs)
      by_test true q = omega arith
      by_test false q = omega arith

  -- what is in the list stays in it
  pub any_one_more : (p : A → Bool) (b : Bool) (xs : List A) (y : A) → any p xs ≡ true → any p (add_unless b xs y) ≡ true
  any_one_more p true xs y q = q
  any_one_more p false xs y q = rw (any_append, q)

  -- and what is added changes nothing for what it is not
  pub other_one_more : (p : A → Bool) (b : Bool) (xs : List A) (y : A) → p y ≡ false → any p (add_unless b xs y) ≡ any p xs
  other_one_more p true xs y r = refl
  other_one_more p false xs y r = any_append p xs (y ∷ []) ∙ or_false (any p xs) (p y) r

  pub none_one_more : (p : A → Bool) (b : Bool) (xs : List A) (y : A) → any p xs ≡ false → p y ≡ false → any p (add_unless b xs y) ≡ false
  none_one_more p b xs y q r = other_one_more p b xs y r ∙ q

  pub any_more : (eq : A → A → Bool) (p : A → Bool) (xs ys : List A) → any p xs ≡ true → any p (add_all eq xs ys) ≡ true
  any_more eq p xs [] q = q
  any_more eq p xs (y ∷ ys) q = any_more eq p (add_new eq xs y) ys (any_one_more p (any (eq y) xs) xs y q)

module _ {A B : Type 0} where
  pub sum_swap : (f : A → B → ℕ) (xs : List A) (ys : List B) → sum_over (λ x. sum_over (f x) ys) xs ≡ sum_over (λ y. sum_over (λ x. f x y) xs) ys
  sum_swap f [] ys = sym (sum_zero ys)
  sum_swap f (x ∷ xs) ys = omega (arith, sum_swap f xs ys, sum_add (f x) (λ y. sum_over (λ z. f z y) xs) ys)

-- what was not there after an addition was not there before
pub any_less : (a b : Bool) → (a ≡ true → b ≡ true) → b ≡ false → a ≡ false
any_less true b f q = sym (f refl) ∙ q
any_less false b f q = refl

-- a list of elements whose test for equality is right
module _ {A : Type 0} (eq : A → A → Bool) (eq-true : (x y : A) → eq x y ≡ true → x ≡ y) (eq_refl : (x : A) → eq x x ≡ true) where
  -- what is added is in the list
  added : (b : Bool) (xs : List A) (y : A) → any (eq y) xs ≡ b → any (eq y) (add_unless b xs y) ≡ true
  added true xs y t = t
  added false xs y t = rw (any_append, t, eq_refl y)

  pub any_added : (xs ys : List A) (m : A) → any (eq m) ys ≡ true → any (eq m) (add_all eq xs ys) ≡ true
  any_added xs [] m q = cc
  any_added xs (y ∷ ys) m q = by_test (eq m y) refl q (any_added (add_new eq xs y) ys m)
    where
      by_test : (b : Bool) → eq m y ≡ b → b || any (eq m) ys ≡ true → (any (eq m) ys ≡ true → any (eq m) (add_all eq (add_new eq xs y) ys) ≡ true) →
          any (eq m) (add_all eq (add_new eq xs y) ys) ≡ true
      by_test true t q f =
          any_more eq (eq m) (add_new eq xs y) ys
          (subst (λ (z : A). any (eq z) (add_new eq xs y) ≡ true) (sym (eq-true m y t)) (added (any (eq y) xs) xs y refl))
      by_test false t q f = f q

  -- where some element passes a test there is one that is in the list and passes it, and back
  pub any_some : (f : A → Bool) (xs : List A) → any f xs ≡ true → (x : A) × (f x ≡ true) × (any (eq x) xs ≡ true)
  any_some f [] q = absurd (clash false q refl)
  any_some f (y ∷ ys) q = by_test (f y) refl q (any_some f ys)
    where
      or_later : (b c : Bool) → c ≡ true → b || c ≡ true
      or_later true c p = refl
      or_later false c p = p

      by_test : (b : Bool) → f y ≡ b → b || any f ys ≡ true → (any f ys ≡ true → (x : A) × (f x ≡ true) × (any (eq x) ys ≡ true)) →
          (x : A) × (f x ≡ true) × (any (eq x) (y ∷ ys) ≡ true)
      by_test true g q i = (y, g, rw (eq_refl y))
      by_test false g q i = let r = i q in (r.0, r.1, or_later (eq r.0 y) _ r.2)

  pub some_any : (f : A → Bool) (xs : List A) (x : A) → f x ≡ true → any (eq x) xs ≡ true → any f xs ≡ true
  some_any f [] x g q = q
  some_any f (y ∷ ys) x g q = by_test (eq x y) refl q (f y) refl (some_any f ys x g)
    where
      by_test : (b : Bool) → eq x y ≡ b → b || any (eq x) ys ≡ true → (c : Bool) → f y ≡ c → (any (eq x) ys ≡ true → any f ys ≡ true) → c || any f ys ≡ true
      by_test b s q true c i = refl
      by_test true s q false c i = absurd (clash (f y) (subst (λ (z : A). f z ≡ true) (eq-true x y s) g) c)
      by_test false s q false c i = i q

  -- what is in the list with y is in the list, or y
  pub any_new : (xs : List A) (y m : A) → any (eq m) (add_new eq xs y) ≡ any (eq m) xs || eq m y
  any_new xs y m = by_test (any (eq y) xs) refl (eq m y) refl
    where
      by_test : (b : Bool) → any (eq y) xs ≡ b → (d : Bool) → eq m y ≡ d → any (eq m) (add_unless b xs y) ≡ any (eq m) xs || d
      by_test true t true u = rw (eq-true m y u, t)
      by_test true t false u = sym (or_false (any (eq m) xs) false refl)
      by_test false t d u = any_append (eq m) xs (y ∷ []) ∙ rw u (last (any (eq m) xs) d)
        where
          last : (a b : Bool) → a || (b || false) ≡ a || b
          last true b = refl
          last false true = refl
          last false false = refl

  -- what is in the list and passes a test is among those that pass it
  pub any_only : (p : A → Bool) (xs : List A) (x : A) → any (eq x) (only p xs) ≡ any (eq x) xs && p x
  any_only p [] x = refl
  any_only p (y ∷ ys) x = by_test (p y) refl (eq x y) refl (any_only p ys x)
    where
      by_test : (b : Bool) → p y ≡ b → (d : Bool) → eq x y ≡ d → any (eq x) (only p ys) ≡ any (eq x) ys && p x →
          any (eq x) (keep b y (only p ys)) ≡ (d || any (eq x) ys) && p x
      by_test true b true d i = rw d (sym (ap p (eq-true x y d) ∙ b))
      by_test false b true d i = let n : p x ≡ false = ap p (eq-true x y d) ∙ b in i ∙ rw n (and-false (any (eq x) ys))
      by_test true b false d i = rw d i
      by_test false b false d i = i

  -- where one of them fails, fewer pass
  pub fewer : (p : A → Bool) (xs : List A) (x : A) → any (eq x) xs ≡ true → p x ≡ false → length (only p xs) < length xs
  fewer p [] x q n = absurd (clash false q refl)
  fewer p (y ∷ ys) x q n = by_test (eq x y) refl q (p y) refl (fewer p ys x)
    where
      by_test : (d : Bool) → eq x y ≡ d → d || any (eq x) ys ≡ true → (b : Bool) → p y ≡ b → (any (eq x) ys ≡ true → p x ≡ false → length (only p ys) < length ys) →
          length (keep b y (only p ys)) < length (y ∷ ys)
      by_test true d q true b i = absurd (clash (p y) b (ap p (sym (eq-true x y d)) ∙ n))
      by_test d e q false b i = omega (arith, only_less p ys)
      by_test false d q true b i = omega (arith, i q n)

  sum_end : (f : A → ℕ) (xs : List A) (y : A) → sum_over f (xs ++ (y ∷ [])) ≡ sum_over f xs + f y
  sum_end f xs y = omega (arith, sum_append f xs (y ∷ []))

  -- those that pass, with one more at the end
  pub only_end : (p : A → Bool) (xs : List A) (y : A) → length (only p (xs ++ (y ∷ []))) ≡ length (only p xs) + one_if (p y)
  only_end p xs y = length_only p (xs ++ (y ∷ [])) ∙ sum_end (λ z. one_if (p z)) xs y ∙ ap (λ (n : ℕ). n + one_if (p y)) (sym (length_only p xs))

  sum_one_more : (f : A → ℕ) (b : Bool) (xs : List A) (y : A) → any (eq y) xs ≡ b → (any (eq y) xs ≡ false → f y ≡ 0) → sum_over f (add_unless b xs y) ≡ sum_over f xs
  sum_one_more f true xs y t q = refl
  sum_one_more f false xs y t q = omega (arith, sum_end f xs y, q t)

  -- A sum does not change where what is new counts 0.
  pub sum_added : (f : A → ℕ) (xs ys : List A) → ((y : A) → any (eq y) xs ≡ false → f y ≡ 0) → sum_over f (add_all eq xs ys) ≡ sum_over f xs
  sum_added f xs [] q = refl
  sum_added f xs (y ∷ ys) q =
      sum_added f (add_new eq xs y) ys (λ z t. q z (any_less (any (eq z) xs) _ (any_one_more (eq z) (any (eq y) xs) xs y) t))
      ∙ sum_one_more f (any (eq y) xs) xs y refl (q y)

  pub other_way : (x y : A) → eq x y ≡ false → eq y x ≡ false
  other_way x y t = any_less (eq y x) (eq x y) (λ q. subst (λ (z : A). eq x z ≡ true) (sym (eq-true y x q)) (eq_refl x)) t

  -- In a list that grew so, what is there is there once.
  abbrev pub Once : List A → Type 0
  Once xs = (m : A) → sum_over (λ x. one_if (eq x m)) xs ≡ one_if (any (eq m) xs)

  once_one_more : (b : Bool) (xs : List A) (y : A) → any (eq y) xs ≡ b → Once xs → Once (add_unless b xs y)
  once_one_more true xs y t o m = o m
  once_one_more false xs y t o m = by_test (eq m y) refl
    where
      F : A → ℕ
      F x = one_if (eq x m)

      by_test : (b : Bool) → eq m y ≡ b → sum_over F (xs ++ (y ∷ [])) ≡ one_if (any (eq m) (xs ++ (y ∷ [])))
      by_test true q =
          let w = eq-true m y q in
          let absent : any (eq m) xs ≡ false = subst (λ (z : A). any (eq z) xs ≡ false) (sym w) t in
          let new : F y ≡ 1 = rw (subst (λ (z : A). eq z m ≡ true) w (eq_refl m)) in
          sum_end F xs y ∙ rw (any_append, absent, q) (omega (arith, o m ∙ ap one_if absent))
      by_test false q =
          let new : F y ≡ 0 = ap one_if (other_way m y q) in
          sum_end F xs y ∙ rw (any_append, or_false (any (eq m) xs) (eq m y) q) (omega (arith, o m))

  pub once_added : (xs ys : List A) → Once xs → Once (add_all eq xs ys)
  once_added xs [] o = o
  once_added xs (y ∷ ys) o = once_added (add_new eq xs y) ys (once_one_more (any (eq y) xs) xs y refl o)

  -- one element of such a list is counted where it is there and passes
  count_one : (f : A → Bool) (x : A) (xs : List A) → Once xs → sum_over (λ y. one_if (eq y x && f y)) xs ≡ one_if (any (eq x) xs && f x)
  count_one f x xs o = sum_cong _ (λ y. one_if (eq y x && f x)) xs pointwise ∙ by_test (f x)
    where
      pointwise : (y : A) → one_if (eq y x && f y) ≡ one_if (eq y x && f x)
      pointwise y = by_same (eq y x) refl
        where
          by_same : (b : Bool) → eq y x ≡ b → one_if (b && f y) ≡ one_if (b && f x)
          by_same true q = ap (λ (z : A). one_if (f z)) (eq-true y x q)
          by_same false q = refl

      by_test : (b : Bool) → sum_over (λ y. one_if (eq y x && b)) xs ≡ one_if (any (eq x) xs && b)
      by_test true = sum_cong _ (λ y. one_if (eq y x)) xs (λ y. ap one_if (and-true (eq y x))) ∙ o x ∙ sym (ap one_if (and-true (any (eq x) xs)))
      by_test false = sum_cong _ (λ y. 0) xs (λ y. ap one_if (and-false (eq y x))) ∙ sum_zero xs ∙ sym (ap one_if (and-false (any (eq x) xs)))

  -- so two tests that say the same of all others count the others alike
  pub count_others : (p q : A → Bool) (x : A) → ((y : A) → eq y x ≡ false → p y ≡ q y) → (xs : List A) → Once xs →
      length (only p xs) + one_if (any (eq x) xs && q x) ≡ length (only q xs) + one_if (any (eq x) xs && p x)
  count_others p q x d xs o =
      omega (
        arith,
        length_only p xs,
        length_only q xs,
        count_one p x xs o,
        count_one q x xs o,
        sum_add (λ y. one_if (p y)) (λ y. one_if (eq y x && q y)) xs,
        sum_add (λ y. one_if (q y)) (λ y. one_if (eq y x && p y)) xs,
        sum_cong (λ y. one_if (p y) + one_if (eq y x && q y)) (λ y. one_if (q y) + one_if (eq y x && p y)) xs pointwise,
      )
    where
      pointwise : (y : A) → one_if (p y) + one_if (eq y x && q y) ≡ one_if (q y) + one_if (eq y x && p y)
      pointwise y = by_same (eq y x) refl
        where
          by_same : (b : Bool) → eq y x ≡ b → one_if (p y) + one_if (b && q y) ≡ one_if (q y) + one_if (b && p y)
          by_same true t = omega arith
          by_same false t = omega (arith, ap one_if (d y t))

-- a sum over chosen elements is the whole sum where the others count 0
pub sum_only : {A : Type 0} (k : A → Bool) (f : A → ℕ) → ((x : A) → k x ≡ false → f x ≡ 0) → (xs : List A) → sum_over f (only k xs) ≡ sum_over f xs
sum_only k f q [] = refl
sum_only k f q (x ∷ xs) = by_test (k x) refl (sum_only k f q xs)
  where
    by_test : (b : Bool) → k x ≡ b → sum_over f (only k xs) ≡ sum_over f xs → sum_over f (keep b x (only k xs)) ≡ f x + sum_over f xs
    by_test true t r = omega arith
    by_test false t r = omega (arith, q x t)
