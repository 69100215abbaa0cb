-- How many places of an index are taken, and what that tells. Where as many places are taken as there are rows and each row is somewhere, nothing else is in
-- the index.
use Rattle.std.proofs.Common.{◌≡◌, ℕ, zero, suc, ◌+◌, ◌<◌, ◌≤◌, Bool, true, false, not, cond, eqb, List, [], ◌∷◌, length, get_or, set, replicate, refl, ap, ◌∙◌, ⊎_elim, arith, get_or-set_other, ne_eqb}
use lib.ListN.{get_or-eq_default}
use lib.Seq.{set_out}
use Rattle.std.proofs.lemmas.List.Sums.{sum_by-cons}
use Rattle.text.proofs.Bools.{lt_or_ge, same_or_not}
use Rattle.tables.specs.Entry.{place_rows}
use Rattle.index.specs.Index.{free, index_of}
use Rattle.index.specs.Taken.{taken_places}

-- 1 for a taken place, 0 for a free one
abbrev one_taken : ℕ → ℕ
one_taken v = cond (not (eqb v 0)) 1 0

one_taken_lem : (v : ℕ) → 1 ≤ v → one_taken v ≡ 1
one_taken_lem v h = rw (ne_eqb v 0 (λ q. omega arith))

taken_first : (v : ℕ) (l : List ℕ) → taken_places (v ∷ l) ≡ one_taken v + taken_places l
unfolding taken_places
taken_first v l = sum_by-cons one_taken v l

-- ---- a store

taken_set : (l : List ℕ) (p v : ℕ) → p < length l → taken_places (set l p v) + one_taken (get_or l p 0) ≡ taken_places l + one_taken v
taken_set [] p v h = absurd (omega arith)
taken_set (w ∷ l) zero v h = omega (arith, taken_first w l, taken_first v l)
taken_set (w ∷ l) (suc p) v h = omega (arith, taken_first w l, taken_first w (set l p v), taken_set l p v (omega arith))

pub taken_put : (l : List ℕ) (p v : ℕ) → p < length l → get_or l p 0 ≡ 0 → 1 ≤ v → taken_places (set l p v) ≡ suc (taken_places l)
taken_put l p v h f s = omega (arith, taken_set l p v h, ap one_taken f, one_taken_lem v s)

-- a place that is taken is one of the places
inside : (l : List ℕ) (p : ℕ) → 1 ≤ get_or l p 0 → p < length l
inside l p h = ⊎_elim (λ k. k) (λ k. absurd (omega (arith, get_or-eq_default l 0 {n = p} k))) (lt_or_ge p (length l))

taken_freed : (l : List ℕ) (p : ℕ) → 1 ≤ get_or l p 0 → taken_places l ≡ suc (taken_places (set l p 0))
taken_freed l p h = omega (arith, taken_set l p 0 (inside l p h), one_taken_lem (get_or l p 0) h)

-- ---- each row is at its place, and no more places are taken than there are rows: then each place that is taken is a row's. The last row's place is freed, and so on.

module _ (at : ℕ → ℕ) where
  rows_left : (n : ℕ) (l : List ℕ) → ((r : ℕ) → r < suc n → get_or l (at r) 0 ≡ suc r) → (r : ℕ) → r < n → get_or (set l (at n) 0) (at r) 0 ≡ suc r
  rows_left n l h r k =
      let e = h r (omega arith) in
      get_or-set_other l (at n) (at r) 0 0 (λ q. omega (arith, ap (λ q. get_or l q 0) q, e, h n (omega arith))) ∙ e

  pub taken_by : (n : ℕ) (l : List ℕ) → ((r : ℕ) → r < n → get_or l (at r) 0 ≡ suc r) → taken_places l ≤ n → (p : ℕ) → 1 ≤ get_or l p 0 → (r : ℕ) × (r < n) × (p ≡ at r)
  taken_by zero l h t p k = absurd (omega (arith, taken_freed l p k))
  taken_by (suc n) l h t p k =
      ⊎_elim (λ e. (n, omega arith, e))
      (λ o.
      let w = taken_by n (set l (at n) 0) (rows_left n l h) (omega (arith, taken_freed l (at n) (omega (arith, h n (omega arith))))) p (rw (get_or-set_other l (at n) p 0 0 o) k) in
      (w.0, omega (arith, w.1), w.2))
      (same_or_not p (at n))

-- ---- how many places the rows of an index take

none_taken : (n : ℕ) → taken_places (replicate n 0) ≡ 0
unfolding taken_places
none_taken zero = refl
none_taken (suc n) = omega (arith, none_taken n)

one_at_most : (b : Bool) → cond b 1 0 ≤ 1
one_at_most true = omega arith
one_at_most false = omega arith

one_more : (l : List ℕ) (p v : ℕ) → taken_places (set l p v) ≤ taken_places l + 1
one_more l p v = ⊎_elim (λ h. omega (arith, taken_set l p v h, one_at_most (not (eqb v 0)))) (λ h. omega (arith, ap taken_places (set_out l p v h))) (lt_or_ge p (length l))

-- each takes one place at most
pub taken_most : (home : ℕ → ℕ) (n : ℕ) → taken_places (index_of home n) ≤ n
unfolding index_of
taken_most home zero = omega (arith, none_taken place_rows)
taken_most home (suc n) = omega (arith, taken_most home n, one_more (index_of home n) (free (index_of home n) (home n)) (suc n))

-- where no place is free, all are taken
pub all_taken : (l : List ℕ) → ((p : ℕ) → p < length l → get_or l p 0 ≡ 0 → ⊥) → taken_places l ≡ length l
unfolding taken_places
all_taken [] h = refl
all_taken (v ∷ l) h = omega (arith, taken_first v l, one_taken_lem v (some_there v (h 0 (omega arith))), all_taken l (λ p k. h (suc p) (omega arith)))
  where
    some_there : (v : ℕ) → (v ≡ 0 → ⊥) → 1 ≤ v
    some_there v o = omega arith
