-- The laws of answers in numbers: what the code makes of them, and when two questions have the same answers.
use Rattle.std.proofs.Common.{◌≡◌, ℕ, zero, suc, ◌+◌, ◌-◌, ◌*◌, ◌/◌, ◌%◌, ◌^◌, ◌<◌, ◌≤◌, Bool, true, false, cond, eqb, leb, ◌⊎◌, sym, refl, subst, ◌∙◌, ⊎_elim, eq-zero-or-pos, arith, ne_eqb, le-leb, leb-false, leb-true}
use native.Mathlib.Nat.{zero-min, min-zero}
use lib.Dec.{leb-suc-suc, leb-suc-zero}
use lib.Bits.{bit_and, and_zero_l, and_step, and_self}
use lib.Count.{count_trailing_zeros}
use borrow.Author.Tests.{lt-leb}
use Rattle.marks.specs.First.{before}
use Rattle.marks.specs.Marks.{bit, marks_from, marks_of, from_on, lowest_off, first_mark, rest_marks}
use Rattle.marks.proofs.Before.{before_split}

-- one less that wraps: of 0 nothing is left
pub off_wrapped : (x : ℕ) → x < 2 ^ 64 → bit_and x ((x + 18446744073709551615) % 18446744073709551616) ≡ lowest_off x
unfolding lowest_off
off_wrapped x h =
    ⊎_elim
    (λ z. rw z (and_zero_l 18446744073709551615 ∙ sym (and_zero_l 0)))
    (λ p. let k : (x + 18446744073709551615) % 18446744073709551616 ≡ x - 1 = omega arith in rw k) (eq-zero-or-pos x)

-- ---- one digit put below a number

trailing_step : (b : Bool) (n m : ℕ) → count_trailing_zeros (suc n) (bit b + 2 * m) ≡ cond b 0 (suc (count_trailing_zeros n m))
unfolding count_trailing_zeros
trailing_step true n m = let r : (1 + 2 * m) % 2 ≡ 1 = omega arith in rw (count_trailing_zeros, r)
trailing_step false n m =
    let r : (0 + 2 * m) % 2 ≡ 0 = omega arith in
    let h : (0 + 2 * m) / 2 ≡ m = omega arith in
    rw (count_trailing_zeros, r, h)

none_step : (b : Bool) (n m k : ℕ) → eqb m 0 ≡ leb n k → eqb (bit b + 2 * m) 0 ≡ leb (suc n) (cond b 0 (suc k))
none_step true n m k e = rw (ne_eqb (1 + 2 * m) 0 (λ q. omega arith), leb-suc-zero n)
none_step false n zero k e = rw leb-suc-suc e
none_step false n (suc m) k e = rw (ne_eqb (0 + 2 * suc m) 0 (λ q. omega arith), leb-suc-suc) (rw (ne_eqb (suc m) 0 (λ q. omega arith)) at e)

off_step : (b : Bool) (m : ℕ) → lowest_off (bit b + 2 * m) ≡ 2 * cond b m (lowest_off m)
unfolding lowest_off
off_step true m =
    let h : (1 + 2 * m) / 2 ≡ m = omega arith in
    let k : ((1 + 2 * m) - 1) / 2 ≡ m = omega arith in
    let l : ((1 + 2 * m) - 1) % 2 ≡ 0 = omega arith in
    and_step (1 + 2 * m) ((1 + 2 * m) - 1) ∙ rw (h, k, l, and_self m, min-zero ((1 + 2 * m) % 2)) (omega arith)
off_step false m =
    let h : (0 + 2 * m) / 2 ≡ m = omega arith in
    let k : ((0 + 2 * m) - 1) / 2 ≡ m - 1 = omega arith in
    let l : (0 + 2 * m) % 2 ≡ 0 = omega arith in
    and_step (0 + 2 * m) ((0 + 2 * m) - 1) ∙ rw (h, k, l, zero-min (((0 + 2 * m) - 1) % 2)) (omega arith)

-- ---- when two questions have the same answers

marks_same : (f g : ℕ → Bool) (i n : ℕ) → ((j : ℕ) → i ≤ j → j < i + n → f j ≡ g j) → marks_from f i n ≡ marks_from g i n
unfolding marks_from
marks_same f g i zero h = refl
marks_same f g i (suc n) h = rw (h i (omega arith) (omega arith), marks_same f g (suc i) n (λ j lo hi. h j (omega arith) (omega arith)))

module _ (f : ℕ → Bool) where
  -- from a number on that is not past the first asked, all answers stay
  all_stay : (a i n : ℕ) → a ≤ i → marks_from (from_on a f) i n ≡ marks_from f i n
  unfolding from_on
  all_stay a i n h = marks_same (from_on a f) f i n (λ j lo hi. rw (le-leb a j (omega arith)))

  pub marks_all : (i a : ℕ) → a ≤ i → marks_of (from_on a f) i ≡ marks_of f i
  marks_all i a h = rw (all_stay a i 64 h, all_stay a (i + 64) 64 (omega arith))

  -- of two numbers to ask from, the later one decides
  again : (a b j : ℕ) (t : Bool) → a ≤ b → leb b j ≡ t → from_on b (from_on a f) j ≡ from_on b f j
  unfolding from_on
  again a b j true h e = rw (e, le-leb a j (omega (arith, leb-true b j e)))
  again a b j false h e = rw e

  pub marks_again : (a b i : ℕ) → a ≤ b → marks_of (from_on b (from_on a f)) i ≡ marks_of (from_on b f) i
  marks_again a b i h =
      let same : (k : ℕ) → marks_from (from_on b (from_on a f)) k 64 ≡ marks_from (from_on b f) k 64 = λ k. marks_same _ _ k 64 (λ j lo hi. again a b j (leb b j) h refl) in
      rw (same i, same (i + 64))

  -- ---- the zeros of the number are the answers before the first yes

  trailing_marks : (i n : ℕ) → count_trailing_zeros n (marks_from f i n) ≡ before f i n
  unfolding count_trailing_zeros marks_from before
  trailing_marks i zero = refl
  trailing_marks i (suc n) = trailing_step (f i) n (marks_from f (suc i) n) ∙ rw (trailing_marks (suc i) n)

  none_marked : (i n : ℕ) → eqb (marks_from f i n) 0 ≡ leb n (before f i n)
  unfolding marks_from before
  none_marked i zero = refl
  none_marked i (suc n) = none_step (f i) n (marks_from f (suc i) n) (before f (suc i) n) (none_marked (suc i) n)

  pub first_mark_lem : (i : ℕ) → first_mark (marks_of f i) ≡ before f i 128
  unfolding first_mark
  first_mark_lem i = rw (none_marked i 64, trailing_marks i 64, trailing_marks (i + 64) 64) (sym (before_split f i 64 64))

  -- ---- the answers without the first yes are those from the number after it on

  none_stay : (a i n : ℕ) → i + n ≤ a → marks_from (from_on a f) i n ≡ 0
  unfolding from_on marks_from
  none_stay a i zero h = refl
  none_stay a i (suc n) h = rw (lt-leb a i (omega arith), none_stay a (suc i) n (omega arith))

  off_here : (b : Bool) (i n k : ℕ) → lowest_off (marks_from f (suc i) n) ≡ marks_from (from_on (suc (suc i + k)) f) (suc i) n
      → 2 * cond b (marks_from f (suc i) n) (lowest_off (marks_from f (suc i) n)) ≡ marks_from (from_on (suc (i + cond b 0 (suc k))) f) i (suc n)
  unfolding marks_from from_on
  off_here true i n k e = rw (lt-leb (suc (i + 0)) i (omega arith), all_stay (suc (i + 0)) (suc i) n (omega arith)) (omega arith)
  off_here false i n k e = let q : i + suc k ≡ suc i + k = omega arith in subst (λ (m : ℕ). 2 * lowest_off (marks_from f (suc i) n) ≡ marks_from (from_on (suc m) f) i (suc n)) (sym q) (rw (lt-leb (suc (suc i + k)) i (omega arith), e) (omega arith))

  lowest_off_lem : (i n : ℕ) → lowest_off (marks_from f i n) ≡ marks_from (from_on (suc (i + before f i n)) f) i n
  unfolding marks_from lowest_off before
  lowest_off_lem i zero = refl
  lowest_off_lem i (suc n) = off_step (f i) (marks_from f (suc i) n) ∙ off_here (f i) i n (before f (suc i) n) (lowest_off_lem (suc i) n)

  rest_cases : (i : ℕ) (b : Bool) (k : ℕ) → leb 64 (before f i 64) ≡ b → k ≡ cond b (64 + before f (i + 64) 64) (before f i 64)
      → cond b (record { low = 0; high = lowest_off (marks_from f (i + 64) 64) }) (record { low = lowest_off (marks_from f i 64); high = marks_from f (i + 64) 64 }) ≡ marks_of (from_on (suc (i + k)) f) i
  rest_cases i true k t e =
      let q : i + k ≡ (i + 64) + before f (i + 64) 64 = omega arith in
      rw (q, lowest_off_lem (i + 64) 64, none_stay (suc ((i + 64) + before f (i + 64) 64)) i 64 (omega arith))
  rest_cases i false k t e = rw (e, lowest_off_lem i 64, all_stay (suc (i + before f i 64)) (i + 64) 64 (omega (arith, leb-false 64 (before f i 64) t)))

  pub rest_marks_lem : (i : ℕ) → rest_marks (marks_of f i) ≡ marks_of (from_on (suc (i + before f i 128)) f) i
  unfolding rest_marks
  rest_marks_lem i = rw (none_marked i 64) (rest_cases i (leb 64 (before f i 64)) (before f i 128) refl (before_split f i 64 64))
