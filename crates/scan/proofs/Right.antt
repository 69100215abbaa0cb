-- A line that is told by its first eight marks is the next line.
use Rattle.std.proofs.Common.{◌≡◌, ℕ, zero, suc, ◌+◌, ◌-◌, ◌<◌, ◌≤◌, Bool, true, false, cond, ◌&&◌, ltb, List, length, get_or, refl, ⊎_elim, arith, ltb-false, eqb-true, None}
use Rattle.text.proofs.Bools.{and_l, and_r, lt_or_ge}
use Rattle.fields.specs.declared.part.Commas.{Commas}
use Rattle.scan.specs.Ahead.{ahead_of}
use Rattle.scan.specs.Quick.{places_of, places_in, InSight, is_comma, are_commas, six_of, ends_after, after_six, told}
use Rattle.scan.proofs.Places.{place, placed}
use Rattle.scan.proofs.Told.{untold, comma_at_lem, comma_past, told_line}

-- ---- tests that are made together

three_tests : (t : ℕ → Bool) → t 0 && (t 1 && t 2) ≡ true → (k : ℕ) → k < 3 → t k ≡ true
three_tests t e zero lt = and_l (t 0) (t 1 && t 2) e
three_tests t e (suc zero) lt = and_l (t 1) (t 2) (and_r (t 0) (t 1 && t 2) e)
three_tests t e (suc (suc zero)) lt = and_r (t 1) (t 2) (and_r (t 0) (t 1 && t 2) e)
three_tests t e (suc (suc (suc k))) lt = absurd (omega arith)

six_tests : (t : ℕ → Bool) → (t 0 && (t 1 && t 2)) && (t 3 && (t 4 && t 5)) ≡ true → (k : ℕ) → k < 6 → t k ≡ true
six_tests t e k lt =
    let low = and_l (t 0 && (t 1 && t 2)) (t 3 && (t 4 && t 5)) e in
    let high = and_r (t 0 && (t 1 && t 2)) (t 3 && (t 4 && t 5)) e in
    ⊎_elim (three_tests t low k)
    (λ ge. let z : 3 + (k - 3) ≡ k = omega arith in rw z at (three_tests (λ i. t (3 + i)) high (k - 3) (omega arith)))
    (lt_or_ge k 3)

-- ---- the places of the first eight marks

module _ (s : List ℕ) (at : ℕ) (fits : at + 129 ≤ length s) where
  abbrev c : Commas
  c = places_in s at

  abbrev Comma : ℕ → Type 0
  Comma k = is_comma s at (place s at k) ≡ true

  byte : (k : ℕ) → Comma k → get_or s (at + place s at k) 0 ≡ 44
  unfolding is_comma
  byte k e = eqb-true _ _ e

  module _ (h : place s at 6 < 128) (commas : (k : ℕ) → k < 6 → Comma k) where
    ends_seventh : told (ends_after s at c.c7 (six_of c)) ≡ true → ends_after s at c.c7 (six_of c) ≡ ahead_of false s at
    unfolding places_in places_of
    ends_seventh =
        let bytes : (k : ℕ) → k < 6 → get_or s (at + place s at k) 0 ≡ 44 = λ k lt. byte k (commas k lt) in
        told_line s at 6 (place s at) (placed s at) h fits bytes (omega arith) (place s at 6 + 1) (comma_past s at 6 (place s at) (placed s at) h fits bytes)

    ends_eighth : Comma 6 → place s at 7 < 128 → told (ends_after s at c.c8 c) ≡ true → ends_after s at c.c8 c ≡ ahead_of false s at
    unfolding places_in places_of
    ends_eighth e h' =
        let bytes : (k : ℕ) → k < 7 → get_or s (at + place s at k) 0 ≡ 44
        = λ k lt. byte k (⊎_elim (commas k) (λ ge. let z : k ≡ 6 = omega arith in rw z e) (lt_or_ge k 6)) in
        told_line s at 7 (place s at) (placed s at) h' fits bytes (omega arith) (place s at 7) (comma_at_lem s at 7 (place s at) (placed s at) h' fits bytes 7 (omega arith))

    by_tests : (a b : Bool) → is_comma s at c.c7 ≡ a → ltb 127 c.c8 ≡ b
        → let r = cond a (cond b None (ends_after s at c.c8 c)) (ends_after s at c.c7 (six_of c)) in told r ≡ true → r ≡ ahead_of false s at
    unfolding places_in places_of
    by_tests false b x y t = ends_seventh t
    by_tests true true x y t = untold (ahead_of false s at) t
    by_tests true false x y t = ends_eighth x (omega (arith, ltb-false 127 (place s at 7) y)) t

pub told_right : (s : List ℕ) (at : ℕ) (c : Commas) → InSight s at c → are_commas s at c ≡ true → told (after_six s at c) ≡ true → after_six s at c ≡ ahead_of false s at
unfolding places_in places_of are_commas after_six
told_right s at c p six t =
    let e = p.places in
    let six' : are_commas s at (places_in s at) ≡ true = rw e at six in
    let t' : told (after_six s at (places_in s at)) ≡ true = rw e at t in
    rw e (by_tests s at p.long (rw e at p.seven) (six_tests (λ k. is_comma s at (place s at k)) six') _ _ refl refl t')
