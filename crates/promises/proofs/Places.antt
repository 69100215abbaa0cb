-- Places in a list that grows at its end by what is new: an element keeps its place, what is new stands at the end, two elements do not share a
-- place, and each place has its element. And a walk over all places.
use mathlib.Core.Path.{◌≡◌, refl, sym, ap, subst, ◌∙◌}
use mathlib.Core.Bool.{Bool, true, false, not, ◌&&◌, ◌||◌, cond, or-false}
use mathlib.Core.List.{List, [], ◌∷◌, ◌++◌, append-nil, append_assoc}
use Prim.Native.Nat.{ℕ, zero, suc, ◌+◌, ◌<◌}
use native.Mathlib.Omega.{arith}
use lib.Dec.{eqb}
use lib.ListN.{length, drop}
use lib.Seq.{drop-length}
use borrow.Author.Tests.{eq-eqb, ne_eqb}
use Rattle.text.specs.Lists.{any}
use Rattle.rules.specs.Lists.{only, keep, add_unless, add_new, add_all}
use Rattle.rules.proofs.Tests.{both, neither, clash}
use Rattle.rules.proofs.Sums.{any_new, other_way}
use Rattle.promises.specs.Places.{place}

module _ {A : Type 0} (f : A → Bool) where
  pub place_bound : (xs : List A) → any f xs ≡ true → place f xs < length xs
  unfolding place
  place_bound [] q = absurd (clash false q refl)
  place_bound (x ∷ xs) q = by_test (f x) q (place_bound xs)
    where
      by_test : (b : Bool) → b || any f xs ≡ true → (any f xs ≡ true → place f xs < length xs) → cond b 0 (suc (place f xs)) < suc (length xs)
      by_test true q r = omega arith
      by_test false q r = let l = r q in omega arith

  pub place_kept : (xs ys : List A) → any f xs ≡ true → place f (xs ++ ys) ≡ place f xs
  unfolding place
  place_kept [] ys q = cc
  place_kept (x ∷ xs) ys q = by_test (f x) q (place_kept xs ys)
    where
      by_test : (b : Bool) → b || any f xs ≡ true → (any f xs ≡ true → place f (xs ++ ys) ≡ place f xs) →
          cond b 0 (suc (place f (xs ++ ys))) ≡ cond b 0 (suc (place f xs))
      by_test true q r = refl
      by_test false q r = ap suc (r q)

  -- what is not in the list stands after it
  pub place_after : (xs ys : List A) → any f xs ≡ false → place f (xs ++ ys) ≡ length xs + place f ys
  unfolding place
  place_after [] ys q = omega arith
  place_after (x ∷ xs) ys q = let r = neither (f x) (any f xs) q in rw r.0 (omega (arith, place_after xs ys r.1))

  pub any_keep : (b : Bool) (x : A) (xs : List A) → any f (keep b x xs) ≡ (b && f x) || any f xs
  any_keep true x xs = refl
  any_keep false x xs = refl

  -- what is chosen of two lists, one after the other
  pub only_append : (xs ys : List A) → only f (xs ++ ys) ≡ only f xs ++ only f ys
  only_append [] ys = refl
  only_append (x ∷ xs) ys = by_test (f x) (only_append xs ys)
    where
      by_test : (b : Bool) → only f (xs ++ ys) ≡ only f xs ++ only f ys → keep b x (only f (xs ++ ys)) ≡ keep b x (only f xs) ++ only f ys
      by_test true r = ap {B = List A} (λ l. x ∷ l) r
      by_test false r = r

module _ {A : Type 0} (eq : A → A → Bool) (eq-true : (x y : A) → eq x y ≡ true → x ≡ y) (eq_refl : (x : A) → eq x x ≡ true) where
  -- two elements do not share a place
  pub place_one : (x y : A) (xs : List A) → any (eq x) xs ≡ true → any (eq y) xs ≡ true → place (eq x) xs ≡ place (eq y) xs → x ≡ y
  unfolding place
  place_one x y [] p q e = cc
  place_one x y (z ∷ zs) p q e = by_tests (eq x z) refl (eq y z) refl p q e (place_one x y zs)
    where
      by_tests : (a : Bool) → eq x z ≡ a → (b : Bool) → eq y z ≡ b → a || any (eq x) zs ≡ true → b || any (eq y) zs ≡ true →
          cond a 0 (suc (place (eq x) zs)) ≡ cond b 0 (suc (place (eq y) zs)) →
          (any (eq x) zs ≡ true → any (eq y) zs ≡ true → place (eq x) zs ≡ place (eq y) zs → x ≡ y) → x ≡ y
      by_tests true t true u p q e r = eq-true x z t ∙ sym (eq-true y z u)
      by_tests true t false u p q e r = absurd (omega arith)
      by_tests false t true u p q e r = absurd (omega arith)
      by_tests false t false u p q e r = r p q (omega arith)

  -- so two places are one exactly if they are of one element
  pub one_row : (x y : A) (xs : List A) → any (eq x) xs ≡ true → any (eq y) xs ≡ true → eqb (place (eq x) xs) (place (eq y) xs) ≡ eq x y
  one_row x y xs p q = by_test (eq x y) refl
    where
      by_test : (b : Bool) → eq x y ≡ b → eqb (place (eq x) xs) (place (eq y) xs) ≡ b
      by_test true t = eq-eqb _ _ (ap (λ (z : A). place (eq z) xs) (eq-true x y t))
      by_test false t = ne_eqb _ _ (λ r. clash (eq x y) (subst (λ (z : A). eq x z ≡ true) (place_one x y xs p q r) (eq_refl x)) t)

  -- a list that grows by one element, and by two that differ, where it lacks them
  one_more : (xs : List A) (x : A) → add_new eq xs x ≡ xs ++ keep (not (any (eq x) xs)) x []
  one_more xs x = by_test (any (eq x) xs)
    where
      by_test : (b : Bool) → add_unless b xs x ≡ xs ++ keep (not b) x []
      by_test true = sym (append-nil xs)
      by_test false = refl

  pub grown_one : (b : Bool) (xs : List A) (x : A) → add_all eq xs (keep b x []) ≡ xs ++ keep (b && not (any (eq x) xs)) x []
  grown_one true xs x = one_more xs x
  grown_one false xs x = sym (append-nil xs)

  pub grown_two : (a b : Bool) (xs : List A) (x y : A) → (a ≡ true → eq x y ≡ false) →
      add_all eq xs (keep a x (keep b y [])) ≡ xs ++ keep (a && not (any (eq x) xs)) x (keep (b && not (any (eq y) xs)) y [])
  grown_two false b xs x y q = grown_one b xs y
  grown_two true b xs x y q =
      grown_one b (add_new eq xs x) y
      ∙ rw (any_new eq eq-true eq_refl xs x y, other_way eq eq-true eq_refl x y (q refl), or-false (any (eq y) xs), one_more xs x, append_assoc)
      (ap {B = List A} (λ l. xs ++ l) (by_test (not (any (eq x) xs))))
    where
      by_test : (c : Bool) → keep c x [] ++ keep (b && not (any (eq y) xs)) y [] ≡ keep c x (keep (b && not (any (eq y) xs)) y [])
      by_test true = refl
      by_test false = refl

  -- what is in a list that grew, and was not in it before, is one of those that were added
  pub any_added_only : (xs ys : List A) (m : A) → any (eq m) (add_all eq xs ys) ≡ true → any (eq m) xs ≡ false → any (eq m) ys ≡ true
  any_added_only xs [] m p q = absurd (clash (any (eq m) xs) p q)
  any_added_only xs (y ∷ ys) m p q = by_test (eq m y) (λ t. any_added_only (add_new eq xs y) ys m p (rw (any_new eq eq-true eq_refl xs y m, q, t)))
    where
      by_test : (b : Bool) → (b ≡ false → any (eq m) ys ≡ true) → b || any (eq m) ys ≡ true
      by_test true r = refl
      by_test false r = r refl

  -- and it was new, where it is the one that a test let in
  pub let_in : (b : Bool) (y : A) (xs : List A) (m : A) → any (eq m) xs ≡ false → b && eq m y ≡ true → (b && not (any (eq y) xs) ≡ true) × (m ≡ y)
  let_in b y xs m a q =
      let p = both b (eq m y) q in
      let w = eq-true m y p.1 in
      (rw (p.0, ← w, a), w)

  -- where two tests agree on a list, they choose the same of it
  pub only_same : (f g : A → Bool) (xs : List A) → ((x : A) → any (eq x) xs ≡ true → f x ≡ g x) → only f xs ≡ only g xs
  only_same f g [] q = refl
  only_same f g (x ∷ xs) q =
      rw (q x (rw (eq_refl x)), only_same f g xs (λ y t. q y (by_test (eq y x) (any (eq y) xs) t)))
    where
      by_test : (b c : Bool) → c ≡ true → b || c ≡ true
      by_test true c t = refl
      by_test false c t = t

  -- ---- a list that has each element once

  abbrev pub Distinct : List A → Type 0
  Distinct [] = Unit {0}
  Distinct (x ∷ xs) = (any (eq x) xs ≡ false) × Distinct xs

  distinct_end : (xs : List A) (x : A) → Distinct xs → any (eq x) xs ≡ false → Distinct (xs ++ (x ∷ []))
  distinct_end [] x d a = (refl, tt)
  distinct_end (y ∷ ys) x d a =
      let r = neither (eq x y) (any (eq x) ys) a in
      (still_not ys d.0 (other_way eq eq-true eq_refl x y r.0), distinct_end ys x d.1 r.1)
    where
      still_not : (zs : List A) → any (eq y) zs ≡ false → eq y x ≡ false → any (eq y) (zs ++ (x ∷ [])) ≡ false
      still_not [] b t = rw t
      still_not (z ∷ zs) b t = let r = neither (eq y z) (any (eq y) zs) b in rw r.0 (still_not zs r.1 t)

  distinct_new : (b : Bool) (xs : List A) (x : A) → any (eq x) xs ≡ b → Distinct xs → Distinct (add_unless b xs x)
  distinct_new true xs x t d = d
  distinct_new false xs x t d = distinct_end xs x d t

  pub distinct_all : (xs ys : List A) → Distinct xs → Distinct (add_all eq xs ys)
  distinct_all xs [] d = d
  distinct_all xs (y ∷ ys) d = distinct_all (add_new eq xs y) ys (distinct_new (any (eq y) xs) xs y refl d)

  -- each place has its element
  pub at_place : (xs : List A) → Distinct xs → (k : ℕ) → k < length xs → (x : A) × (any (eq x) xs ≡ true) × (place (eq x) xs ≡ k)
  unfolding place
  at_place [] d k l = absurd (omega arith)
  at_place (x ∷ xs) d zero l = (x, rw (eq_refl x), rw (eq_refl x))
  at_place (x ∷ xs) d (suc k) l = let r = at_place xs d.1 k (omega arith) in by_test r.0 (eq r.0 x) refl r.1 r.2
    where
      by_test : (y : A) (b : Bool) → eq y x ≡ b → any (eq y) xs ≡ true → place (eq y) xs ≡ k →
          (z : A) × (any (eq z) (x ∷ xs) ≡ true) × (place (eq z) (x ∷ xs) ≡ suc k)
      by_test y true t a p = absurd (clash (any (eq x) xs) (subst (λ (z : A). any (eq z) xs ≡ true) (eq-true y x t) a) d.0)
      by_test y false t a p = (y, rw (t, a), rw (t, p))

  -- ---- the places of a list, one after the other

  -- from its place on a list is the element and those after it
  back_place : (x : A) (xs : List A) → any (eq x) xs ≡ true → drop (place (eq x) xs) xs ≡ x ∷ drop (suc (place (eq x) xs)) xs
  unfolding place
  back_place x [] q = absurd (clash false q refl)
  back_place x (y ∷ ys) q = by_test (eq x y) refl q (back_place x ys)
    where
      by_test : (b : Bool) → eq x y ≡ b → b || any (eq x) ys ≡ true → (any (eq x) ys ≡ true → drop (place (eq x) ys) ys ≡ x ∷ drop (suc (place (eq x) ys)) ys) →
          drop (cond b 0 (suc (place (eq x) ys))) (y ∷ ys) ≡ x ∷ drop (suc (cond b 0 (suc (place (eq x) ys)))) (y ∷ ys)
      by_test true t q r = ap {B = List A} (λ z. z ∷ ys) (sym (eq-true x y t))
      by_test false t q r = r q

  -- To show something of a walk over all places, by what is left to do: it holds behind the last one with nothing left, and if behind the place of an
  -- element with some left, then before that place with the element in front of them.
  pub by_rows : (xs : List A) → Distinct xs → (P : ℕ → List A → Type 0) → P (length xs) [] →
      ((x : A) → any (eq x) xs ≡ true → (ys : List A) → P (suc (place (eq x) xs)) ys → P (place (eq x) xs) (x ∷ ys)) → P 0 xs
  by_rows xs d P end step = from (length xs) 0 (omega arith)
    where
      from : (m k : ℕ) → m + k ≡ length xs → P k (drop k xs)
      from zero k l = rw (let z : k ≡ length xs = omega arith in z, drop-length xs) end
      from (suc m) k l =
          let r = at_place xs d k (omega arith) in
          subst (λ (j : ℕ). P j (drop j xs)) r.2
          (rw (back_place r.0 xs r.1)
          (step r.0 r.1 (drop (suc (place (eq r.0) xs)) xs)
          (subst (λ (j : ℕ). P (suc j) (drop (suc j) xs)) (sym r.2) (from m (suc k) (omega arith)))))
