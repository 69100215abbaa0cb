-- An index is right: each row lies at a distance from its home, with earlier rows in every place between, and nothing else is in the index.
-- The index that inserting gives is right, and no other is. For any homes.
use Rattle.std.proofs.Common.{◌≡◌, ℕ, zero, suc, ◌+◌, ◌-◌, ◌<◌, ◌≤◌, true, false, eqb, List, length, get_or, set, sym, refl, ap, ◌∙◌, subst, ⊎_elim, le_of_suc-le-suc, mod-lt, mod-eq_of_lt, eq-or-lt_of_le, arith, length-set, get_or-set_other, get_or-set_same, ext_get_or, eqb-true, Option, None, Some}
use native.Mathlib.Nat.{add-mod_right}
use lib.ListN.{length-replicate, get_or-replicate}
use borrow.Author.Tests.{eqb-false}
use Rattle.text.proofs.Bools.{lt_or_ge, same_or_not}
use Rattle.marks.proofs.Firsts.{first_at, first_none}
use Rattle.tables.specs.Entry.{place_rows}
use Rattle.index.specs.Index.{place, entry, sought, place_found, free, index_of}
use Rattle.index.specs.Taken.{taken_places}
use Rattle.index.proofs.Tally.{taken_put, taken_most, all_taken}

pub record Held (l : List ℕ) (h r : ℕ) : Type 0 where
  pub far : ℕ
  pub near : far < place_rows
  pub there : entry l h far ≡ suc r
  pub before : (k : ℕ) → k < far → (1 ≤ entry l h k) × (entry l h k ≤ r)
  pub only : (p : ℕ) → p < place_rows → get_or l p 0 ≡ suc r → p ≡ place h far

pub record Right (home : ℕ → ℕ) (n : ℕ) (l : List ℕ) : Type 0 where
  pub size : length l ≡ place_rows
  pub small : (p : ℕ) → p < place_rows → get_or l p 0 ≤ n
  pub held : (r : ℕ) → r < n → Held l (home r) r

pub place_lt : (h d : ℕ) → place h d < place_rows
place_lt h d = mod-lt (h + d) (omega arith)

-- ---- no other index is right

-- where two right indexes agree on the rows before r, row r is no nearer in one than in the other
module _ (a b : List ℕ) (r : ℕ) where
  not_nearer : (h : ℕ) (x : Held a h r) (y : Held b h r) → ((p : ℕ) → p < place_rows → 1 ≤ get_or b p 0 → get_or b p 0 ≤ r → get_or a p 0 ≡ get_or b p 0) → y.far ≤ x.far
  not_nearer h x y s =
      ⊎_elim
      (λ l. let e = y.before x.far l in absurd (omega (arith, x.there, s (place h x.far) (place_lt h x.far) e.0 e.1, e.1)))
      (λ g. g) (lt_or_ge x.far y.far)

module _ (home : ℕ → ℕ) (n : ℕ) where
  -- what stands for rows before r in one index stands in the other
  agree : (r : ℕ) → r ≤ n → (a b : List ℕ) → Right home n a → Right home n b → (p : ℕ) → p < place_rows → 1 ≤ get_or b p 0 → get_or b p 0 ≤ r → get_or a p 0 ≡ get_or b p 0
  agree zero h a b x y p l lo hi = absurd (omega arith)
  agree (suc r) h a b x y p l lo hi =
      ⊎_elim
      (λ e.
      let f = x.held r h in
      let g = y.held r h in
      let d1 = not_nearer a b r (home r) f g (agree r (omega arith) a b x y) in
      let d2 = not_nearer b a r (home r) g f (agree r (omega arith) b a y x) in
      let d : g.far ≡ f.far = omega arith in
      ap (λ q. get_or a q 0) (g.only p l e ∙ ap (place (home r)) d) ∙ f.there ∙ sym e)
      (λ k. agree r (omega arith) a b x y p l lo (le_of_suc-le-suc k))
      (eq-or-lt_of_le hi)

  agrees : (a b : List ℕ) → Right home n a → Right home n b → (p : ℕ) → p < place_rows → get_or a p 0 ≡ get_or b p 0
  agrees a b x y p l = by_entries (get_or a p 0) (get_or b p 0) refl refl
    where
      by_entries : (v w : ℕ) → get_or a p 0 ≡ v → get_or b p 0 ≡ w → get_or a p 0 ≡ get_or b p 0
      by_entries v (suc w) e f = agree n (omega arith) a b x y p l (omega arith) (y.small p l)
      by_entries (suc v) zero e f = sym (agree n (omega arith) b a y x p l (omega arith) (x.small p l))
      by_entries zero zero e f = e ∙ sym f

  pub right_same : (a b : List ℕ) → Right home n a → Right home n b → a ≡ b
  right_same a b x y = ext_get_or 0 a b (x.size ∙ sym y.size) (λ p l. agrees a b x y p (omega (arith, x.size)))

-- ---- a row put into a free place

module _ (home : ℕ → ℕ) (n : ℕ) (l : List ℕ) (d : ℕ) (x : Right home n l) (f : sought l (home n) (λ e. eqb e 0) ≡ Some d) where
  abbrev to : ℕ
  to = place (home n) d

  abbrev grown : List ℕ
  grown = set l to (suc n)

  found : (d < place_rows) × (eqb (entry l (home n) d) 0 ≡ true) × ((k : ℕ) → k < d → eqb (entry l (home n) k) 0 ≡ false)
  found = first_at (λ d. eqb (entry l (home n) d) 0) place_rows d f

  was_free : get_or l to 0 ≡ 0
  was_free = eqb-true _ _ found.1

  new : get_or grown to 0 ≡ suc n
  new = get_or-set_same l to (suc n) 0 (omega (arith, x.size, place_lt (home n) d))

  old : (p : ℕ) → (p ≡ to → ⊥) → get_or grown p 0 ≡ get_or l p 0
  old p o = get_or-set_other l to p (suc n) 0 o

  -- a place that was taken is as it was
  taken : (p : ℕ) → 1 ≤ get_or l p 0 → get_or grown p 0 ≡ get_or l p 0
  taken p h = old p (λ e. let z = ap (λ q. get_or l q 0) e ∙ was_free in omega arith)

  -- where an entry is not the new one, it was there
  stays : (p v : ℕ) → get_or grown p 0 ≡ v → (v ≡ suc n → ⊥) → get_or l p 0 ≡ v
  stays p v e o = sym (old p (λ q. o (sym e ∙ ap (λ q. get_or grown q 0) q ∙ new))) ∙ e

  held_old : (r : ℕ) → r < n → Held grown (home r) r
  held_old r h =
      let y = x.held r h in
      record {
        far = y.far;
        near = y.near;
        there = taken (place (home r) y.far) (omega (arith, y.there)) ∙ y.there;
        before = λ k b. let z = y.before k b in let e = taken (place (home r) k) z.0 in (omega arith, omega arith);
        only = λ p b e. y.only p b (stays p (suc r) e (λ q. omega arith));
      }

  held_new : Held grown (home n) n
  held_new = record {
    far = d;
    near = found.0;
    there = new;
    before = λ k b.
        let p : 1 ≤ entry l (home n) k = one_up (eqb-false _ _ (found.2 k b)) in
        let e = taken (place (home n) k) p in
        let s = x.small (place (home n) k) (place_lt (home n) k) in
        (omega arith, omega arith);
    only = λ p b e. ⊎_elim (λ q. q) (λ o. absurd (omega (arith, x.small p b, old p o, e))) (same_or_not p to);
  }
    where
      one_up : {v : ℕ} → (v ≡ 0 → ⊥) → 1 ≤ v
      one_up o = omega arith

  pub right_put : Right home (suc n) grown
  right_put = record {
    size = length-set l to (suc n) ∙ x.size;
    small = λ p b. ⊎_elim (λ q. omega (arith, ap (λ q. get_or grown q 0) q, new)) (λ o. omega (arith, old p o, x.small p b)) (same_or_not p to);
    held = λ r h. ⊎_elim (λ q. subst (λ r. Held grown (home r) r) (sym q) held_new) (λ k. held_old r k) (eq-or-lt_of_le (le_of_suc-le-suc h));
  }

-- ---- a free place is always met: each row takes one place at most

-- every place lies at some distance from home
all_around : (h p : ℕ) → h < place_rows → p < place_rows → (d : ℕ) × (d < place_rows) × (place h d ≡ p)
all_around h p a b =
    ⊎_elim
    (λ l. let e : h + (p + place_rows - h) ≡ p + place_rows = omega arith in (p + place_rows - h, omega arith, rw (e, add-mod_right p place_rows) (mod-eq_of_lt b)))
    (λ g. let e : h + (p - h) ≡ p = omega arith in (p - h, omega arith, rw e (mod-eq_of_lt b)))
    (lt_or_ge p h)

always_free : (home : ℕ → ℕ) (n : ℕ) → n < place_rows → home n < place_rows → length (index_of home n) ≡ place_rows
    → sought (index_of home n) (home n) (λ e. eqb e 0) ≡ None → ⊥
always_free home n m h s e =
    let all = all_taken (index_of home n) (λ p l q.
    let w = all_around (home n) p h (omega arith) in
    eqb-false _ _ (first_none (λ d. eqb (entry (index_of home n) (home n) d) 0) place_rows e w.0 w.1) (ap (λ q. get_or (index_of home n) q 0) w.2 ∙ q)) in
    omega (arith, taken_most home n)

-- ---- the index that inserting gives is right

pub right_index : (home : ℕ → ℕ) (n : ℕ) → n ≤ place_rows → ((r : ℕ) → r < n → home r < place_rows) → Right home n (index_of home n)
unfolding index_of free
right_index home zero m b = record {
  size = length-replicate {A = ℕ} place_rows 0;
  small = λ p l. omega (arith, get_or-replicate {A = ℕ} place_rows p 0 0 l);
  held = λ r h. absurd (omega arith);
}
right_index home (suc n) m b = by_free (right_index home n (omega arith) (λ r h. b r (omega arith))) (sought (index_of home n) (home n) (λ e. eqb e 0)) refl
  where
    by_free : Right home n (index_of home n) → (r : Option ℕ) → sought (index_of home n) (home n) (λ e. eqb e 0) ≡ r
        → Right home (suc n) (set (index_of home n) (place_found (home n) r) (suc n))
    by_free x (Some d) e = right_put home n (index_of home n) d x e
    by_free x None e = absurd (always_free home n (omega arith) (b n (omega arith)) x.size e)

-- below placeRows rows the next row finds a free place
pub free_met : (home : ℕ → ℕ) (n : ℕ) → n < place_rows → ((r : ℕ) → r ≤ n → home r < place_rows) → (free (index_of home n) (home n) < place_rows) × (get_or (index_of home n) (free (index_of home n) (home n)) 0 ≡ 0)
unfolding free
free_met home n m b = by_free (sought (index_of home n) (home n) (λ e. eqb e 0)) refl
  where
    by_free : (r : Option ℕ) → sought (index_of home n) (home n) (λ e. eqb e 0) ≡ r → (place_found (home n) r < place_rows) × (get_or (index_of home n) (place_found (home n) r) 0 ≡ 0)
    by_free (Some d) e = (place_lt (home n) d, eqb-true _ _ (first_at (λ d. eqb (entry (index_of home n) (home n) d) 0) place_rows d e).1)
    by_free None e = absurd (always_free home n m (b n (omega arith)) (right_index home n (omega arith) (λ r h. b r (omega arith))).size e)

-- so each row takes one place
pub taken_index : (home : ℕ → ℕ) (n : ℕ) → n ≤ place_rows → ((r : ℕ) → r < n → home r < place_rows) → taken_places (index_of home n) ≡ n
unfolding index_of
taken_index home zero m b = omega (arith, taken_most home 0)
taken_index home (suc n) m b =
    let x = right_index home n (omega arith) (λ r h. b r (omega arith)) in
    let f = free_met home n (omega arith) (λ r h. b r (omega arith)) in
    omega (arith, taken_put (index_of home n) (free (index_of home n) (home n)) (suc n) (omega (arith, x.size, f.0)) f.1 (omega arith), taken_index home n (omega arith) (λ r h. b r (omega arith)))
