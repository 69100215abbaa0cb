-- The first refusal, of any things and for any answer: what is taken, what it means that nothing was refused, which is the first refused, and that what
-- follows it changes nothing. Events and lines are two instances (`Verdicts`, `Traces`). And two answers that differ in one number only.
use mathlib.Core.Path.{◌≡◌, refl, sym, ap, ◌∙◌}
use mathlib.Core.List.{List, [], ◌∷◌, ◌++◌, reverse_aux}
use Prim.Native.Nat.{ℕ, zero, suc, ◌+◌, ◌≤◌}
use native.Mathlib.Omega.{arith}
use lib.ListN.{length}
use Rattle.rules.specs.Lists.{if_zero}
use Rattle.rules.specs.First.{taken_of, first_refusal, FirstRefused}

module _ {A : Type 0} (answer : List A → A → ℕ) where
  -- ---- what each taken keeps, all of them keep

  module _ (P : List A → Type 0) (next : (h : List A) (x : A) → P h → answer h x ≡ 0 → P (x ∷ h)) where
    pub taken_keeps : (xs h : List A) → P h → P (taken_of answer h xs)
    unfolding taken_of
    taken_keeps [] h p = p
    taken_keeps (x ∷ xs) h p = by_answer (answer h x) refl (taken_keeps xs (x ∷ h))
      where
        by_answer : (n : ℕ) → answer h x ≡ n → (P (x ∷ h) → P (taken_of answer (x ∷ h) xs)) → P (if_zero n (taken_of answer (x ∷ h) xs) h)
        by_answer zero q f = f (next h x p q)
        by_answer (suc n) q f = p

  -- ---- nothing refused

  pub zero_takes_all : (xs h : List A) → (first_refusal answer h xs).0 ≡ 0 → taken_of answer h xs ≡ reverse_aux xs h
  unfolding taken_of first_refusal
  zero_takes_all [] h q = refl
  zero_takes_all (x ∷ xs) h q = by_answer (answer h x) q (zero_takes_all xs (x ∷ h))
    where
      by_answer : (n : ℕ) → (if_zero n (first_refusal answer (x ∷ h) xs) (n, length h + 1)).0 ≡ 0 →
          ((first_refusal answer (x ∷ h) xs).0 ≡ 0 → taken_of answer (x ∷ h) xs ≡ reverse_aux xs (x ∷ h)) → if_zero n (taken_of answer (x ∷ h) xs) h ≡ reverse_aux xs (x ∷ h)
      by_answer zero q f = f q
      by_answer (suc n) q f = absurd (omega arith)

  -- nothing is, where something holds of all of it that holds of no history but one whose newest was answered 0
  module _ (P : List A → Type 0) (back : (h : List A) (x : A) → P (x ∷ h) → (answer h x ≡ 0) × P h) where
    earlier : (xs h : List A) → P (reverse_aux xs h) → P h
    earlier [] h p = p
    earlier (x ∷ xs) h p = (back h x (earlier xs (x ∷ h) p)).1

    pub kept_none : (xs h : List A) → P (reverse_aux xs h) → first_refusal answer h xs ≡ (0, 0)
    unfolding first_refusal
    kept_none [] h p = refl
    kept_none (x ∷ xs) h p = rw ((back h x (earlier xs (x ∷ h) p)).0, first_refusal) (kept_none xs (x ∷ h) p)

  -- ---- one refused

  pub first_refused : (xs h : List A) → 1 ≤ (first_refusal answer h xs).0 → FirstRefused answer h xs (first_refusal answer h xs) (taken_of answer h xs)
  unfolding taken_of first_refusal
  first_refused [] h q = absurd (omega arith)
  first_refused (x ∷ xs) h q = by_answer (answer h x) refl q (first_refused xs (x ∷ h))
    where
      by_answer : (n : ℕ) → answer h x ≡ n → 1 ≤ (if_zero n (first_refusal answer (x ∷ h) xs) (n, length h + 1)).0 →
          (1 ≤ (first_refusal answer (x ∷ h) xs).0 → FirstRefused answer (x ∷ h) xs (first_refusal answer (x ∷ h) xs) (taken_of answer (x ∷ h) xs)) →
          FirstRefused answer h (x ∷ xs) (if_zero n (first_refusal answer (x ∷ h) xs) (n, length h + 1)) (if_zero n (taken_of answer (x ∷ h) xs) h)
      by_answer zero e q f =
          let r = f q in
          record {
            before = x ∷ r.before;
            first = r.first;
            after = r.after;
            splits = ap {B = List A} (λ s. x ∷ s) r.splits;
            place = omega (arith, r.place);
            all_taken = rw (e, taken_of) r.all_taken;
            no_other = r.no_other;
            answered = r.answered;
            refused = r.refused;
          }
      by_answer (suc n) e q f = record {
        before = [];
        first = x;
        after = xs;
        splits = refl;
        place = omega arith;
        all_taken = refl;
        no_other = refl;
        answered = e;
        refused = omega arith;
      }

  -- ---- what follows a refusal changes nothing

  pub stays : (xs more h : List A) → 1 ≤ (first_refusal answer h xs).0 →
      (first_refusal answer h (xs ++ more) ≡ first_refusal answer h xs) × (taken_of answer h (xs ++ more) ≡ taken_of answer h xs)
  unfolding taken_of first_refusal
  stays [] more h q = absurd (omega arith)
  stays (x ∷ xs) more h q = by_answer (answer h x) q (stays xs more (x ∷ h))
    where
      by_answer : (n : ℕ) → 1 ≤ (if_zero n (first_refusal answer (x ∷ h) xs) (n, length h + 1)).0 →
          (1 ≤ (first_refusal answer (x ∷ h) xs).0 →
          (first_refusal answer (x ∷ h) (xs ++ more) ≡ first_refusal answer (x ∷ h) xs) × (taken_of answer (x ∷ h) (xs ++ more) ≡ taken_of answer (x ∷ h) xs)) →
          (if_zero n (first_refusal answer (x ∷ h) (xs ++ more)) (n, length h + 1) ≡ if_zero n (first_refusal answer (x ∷ h) xs) (n, length h + 1))
          × (if_zero n (taken_of answer (x ∷ h) (xs ++ more)) h ≡ if_zero n (taken_of answer (x ∷ h) xs) h)
      by_answer zero k f = f k
      by_answer (suc n) k f = (refl, refl)

-- ---- two answers that are the same but where the first is n: where nothing was refused with n, both take the same and refuse the same

module _ {A : Type 0} (old new : List A → A → ℕ) (n : ℕ) (Some-number : 1 ≤ n) (agree : (h : List A) (x : A) → (old h x ≡ n → ⊥) → new h x ≡ old h x) where
  pub same_first : (xs h : List A) → ((first_refusal old h xs).0 ≡ n → ⊥) →
      (first_refusal new h xs ≡ first_refusal old h xs) × (taken_of new h xs ≡ taken_of old h xs)
  unfolding taken_of first_refusal
  same_first [] h q = (refl, refl)
  same_first (x ∷ xs) h q = by_answer (old h x) refl q (same_first xs (x ∷ h))
    where
      by_answer : (m : ℕ) → old h x ≡ m → ((if_zero m (first_refusal old (x ∷ h) xs) (m, length h + 1)).0 ≡ n → ⊥) →
          (((first_refusal old (x ∷ h) xs).0 ≡ n → ⊥) → (first_refusal new (x ∷ h) xs ≡ first_refusal old (x ∷ h) xs) × (taken_of new (x ∷ h) xs ≡ taken_of old (x ∷ h) xs)) →
          (if_zero (new h x) (first_refusal new (x ∷ h) xs) (new h x, length h + 1) ≡ if_zero m (first_refusal old (x ∷ h) xs) (m, length h + 1))
          × (if_zero (new h x) (taken_of new (x ∷ h) xs) h ≡ if_zero m (taken_of old (x ∷ h) xs) h)
      by_answer zero e q f = let z : new h x ≡ 0 = agree h x (λ p. omega arith) ∙ e in rw z (f q)
      by_answer (suc m) e q f = let z : new h x ≡ suc m = agree h x (λ p. q (sym e ∙ p)) ∙ e in rw z (refl, refl)
