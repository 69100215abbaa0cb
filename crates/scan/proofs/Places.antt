-- The places of marks: they stand one after another, and between them only bytes that a name may have.
use Rattle.std.proofs.Common.{◌≡◌, ℕ, zero, suc, ◌+◌, ◌<◌, ◌≤◌, Bool, true, List, get_or, sym, ap, ◌∙◌, ⊎_elim, arith}
use borrow.Author.Tests.{not-false}
use Rattle.text.specs.Name.{is_name_byte}
use Rattle.text.proofs.Bools.{lt_or_ge}
use Rattle.text.proofs.Names.{name_byte}
use Rattle.text.proofs.Plain.{Plain}
use Rattle.marks.specs.First.{before}
use Rattle.marks.specs.Marks.{marks_of, from_on, first_mark, rest_marks}
use Rattle.marks.proofs.Before.{before_le, found_from, missed_from}
use Rattle.marks.proofs.Marked.{first_mark_lem, rest_marks_lem, marks_all, marks_again}
use Rattle.fields.specs.declared.part.Commas.{Commas}
use Rattle.scan.specs.Window.{is_mark}
use Rattle.scan.specs.Quick.{without, place_of, places_of, places_in, InSight}

-- where the place after k others is looked for
abbrev pub start_of : ℕ → (ℕ → ℕ) → ℕ → ℕ
start_of at place zero = at
start_of at place (suc k) = suc (at + place k)

start_ge : (at : ℕ) (place : ℕ → ℕ) (k : ℕ) → at ≤ start_of at place k
start_ge at place zero = omega arith
start_ge at place (suc k) = omega arith

-- places from an index on, each after the one before it where it is below 128, and between them only bytes of names
pub record Placed (s : List ℕ) (at : ℕ) (place : ℕ → ℕ) : Type 0 where
  pub after : (k : ℕ) → place k < 128 → start_of at place k ≤ at + place k
  pub names : (k j : ℕ) → start_of at place k ≤ j → j < at + place k → Plain (get_or s j 0) × (get_or s j 0 ≡ 44 → ⊥)

-- so they rise
pub rises : {s : List ℕ} {at : ℕ} {place : ℕ → ℕ} → Placed s at place → (d k : ℕ) → place (k + d) < 128 → place k + d ≤ place (k + d)
rises {s} {at} {place} p zero k h = let z : k + 0 ≡ k = omega arith in rw z (omega arith)
rises {s} {at} {place} p (suc d) k h =
    let z : k + suc d ≡ suc (k + d) = omega arith in
    let h' : place (suc (k + d)) < 128 = rw z at h in
    let a = p.after (suc (k + d)) h' in
    rw z (omega (arith, rises p d k (omega arith)))

-- ---- the marks of a line

module _ (s : List ℕ) (at : ℕ) where
  abbrev pub place : ℕ → ℕ
  place k = place_of (marks_of (is_mark s) at) k

  abbrev start : ℕ → ℕ
  start k = start_of at place k

  -- the question that is left after k marks
  abbrev left : ℕ → ℕ → Bool
  left k = from_on (start k) (is_mark s)

  -- what is left are its answers, and it is not asked from further on than the marks reach
  still : (k : ℕ) → (without k (marks_of (is_mark s) at) ≡ marks_of (left k) at) × (start k ≤ at + 129)
  unfolding without
  still zero = (sym (marks_all (is_mark s) at at (omega arith)), omega arith)
  still (suc k) =
      let e = (still k).0 in
      let n = before (left k) at 128 in
      let z : place k ≡ n = ap first_mark e ∙ first_mark_lem (left k) at in
      let most : start k ≤ at + 129 = (still k).1 in
      let most' = before_le (left k) at 128 in
      let le : start k ≤ suc (at + n) = ⊎_elim (λ lt. omega (arith, (found_from (is_mark s) (start k) at 128 lt).1)) (λ ge. omega arith) (lt_or_ge n 128) in
      (ap rest_marks e ∙ rest_marks_lem (left k) at ∙ marks_again (is_mark s) (start k) (suc (at + n)) at le ∙ rw z, omega arith)

  place_is : (k : ℕ) → place k ≡ before (left k) at 128
  place_is k = ap first_mark (still k).0 ∙ first_mark_lem (left k) at

  named : (k j : ℕ) → start k ≤ j → j < at + place k → is_name_byte (get_or s j 0) ≡ true
  unfolding is_mark
  named k j lo hi =
      let e = place_is k in
      not-false (is_name_byte (get_or s j 0)) (missed_from (is_mark s) (start k) at 128 j lo (omega (arith, start_ge at place k)) (omega arith))

  pub placed : Placed s at place
  placed = record {
    after = λ k h. let e = place_is k in omega (arith, (found_from (is_mark s) (start k) at 128 (omega arith)).1);
    names = λ k j lo hi. let b = name_byte (get_or s j 0) (named k j lo hi) in ((b.0, b.1), b.2);
  }

  -- where the seventh place is below 128, so are those before it
  pub six_below : (c : Commas) → InSight s at c → (c.c1 < 128) × (c.c2 < 128) × (c.c3 < 128) × (c.c4 < 128) × (c.c5 < 128) × (c.c6 < 128)
  unfolding places_in places_of
  six_below c p =
      let h : place 6 < 128 = rw p.places at p.seven in
      let up : (d k : ℕ) → place (k + d) < 128 → place k + d ≤ place (k + d) = rises placed in
      rw p.places (omega (arith, up 6 0 h), omega (arith, up 5 1 h), omega (arith, up 4 2 h), omega (arith, up 3 3 h), omega (arith, up 2 4 h), omega (arith, up 1 5 h))
