-- The last yes among answers in one number: where the highest digit 1 stands.
use Rattle.std.proofs.Common.{◌≡◌, ℕ, zero, suc, ◌+◌, ◌-◌, ◌*◌, ◌%◌, ◌^◌, ◌<◌, ◌≤◌, Bool, true, false, cond, sym, refl, ap, ◌∙◌, ⊎_elim, lt_of_lt_of_le, lt_of_le_of_lt, lt_irrefl, mul_assoc, suc-mul, mul_comm, eq-or-lt_of_le, pow-suc, lt_of_not-le, arith, pow_mono}
use lib.Count.{count_leading_zeros, leading_top}
use lib.Pow.{low}
use Rattle.marks.specs.Marks.{bit, marks_from}

bit_lt : (b : Bool) → bit b < 2
bit_lt true = omega arith
bit_lt false = omega arith

bit_none : (b : Bool) → bit b ≡ 0 → b ≡ false
bit_none true e = absurd (omega arith)
bit_none false e = refl

bit_one : (b : Bool) → 0 < bit b → b ≡ true
bit_one true h = refl
bit_one false h = absurd (omega arith)

-- one digit more
twice : (x k : ℕ) → x * 2 ^ suc k ≡ 2 * (x * 2 ^ k)
twice x k = ap (λ (y : ℕ). x * y) (pow-suc 2 k) ∙ sym (mul_assoc x (2 ^ k) 2) ∙ mul_comm (x * 2 ^ k) 2

-- a number as a high part and k low digits: the high part is 0 exactly where the number has only k digits
high_none : (x k r : ℕ) → x * 2 ^ k + r < 2 ^ k → x ≡ 0
high_none zero k r h = refl
high_none (suc x) k r h = absurd (omega (arith, suc-mul x (2 ^ k)))

high_some : (x k r : ℕ) → r < 2 ^ k → 2 ^ k ≤ x * 2 ^ k + r → 0 < x
high_some zero k r l h = absurd (omega arith)
high_some (suc x) k r l h = omega arith

module _ (f : ℕ → Bool) where
  -- so many answers are so many digits
  pub marks_lt : (n i : ℕ) → marks_from f i n < 2 ^ n
  unfolding marks_from
  marks_lt zero i = omega arith
  marks_lt (suc n) i = omega (arith, pow-suc 2 n, bit_lt (f i), marks_lt n (suc i))

  -- the first a answers are the lowest digits, and the others the rest
  marks_split : (a b i : ℕ) → marks_from f i (a + b) ≡ marks_from f (i + a) b * 2 ^ a + marks_from f i a
  unfolding marks_from
  marks_split zero b i = let n : 0 + b ≡ b = omega arith in let m : i + 0 ≡ i = omega arith in rw (n, m) (omega arith)
  marks_split (suc a) b i =
      let n : suc a + b ≡ suc (a + b) = omega arith in
      let m : i + suc a ≡ suc i + a = omega arith in
      rw (n, m) (omega (arith, marks_split a b (suc i), twice (marks_from f (suc i + a) b) a))

  -- one answer more adds its weight
  pub marks_more : (n i : ℕ) (b : Bool) → f (i + n) ≡ b → marks_from f i (n + 1) ≡ marks_from f i n + cond b (2 ^ n) 0
  unfolding marks_from
  marks_more n i true e = marks_split n 1 i ∙ rw e (omega arith)
  marks_more n i false e = marks_split n 1 i ∙ rw e (omega arith)

  -- of n answers the first j
  pub marks_front : (n i j : ℕ) → j ≤ n → marks_from f i n % 2 ^ j ≡ marks_from f i j
  marks_front n i j h =
      let e : j + (n - j) ≡ n = omega arith in
      ap (λ (x : ℕ). marks_from f i x % 2 ^ j) (sym e) ∙ ap (λ (x : ℕ). x % 2 ^ j) (marks_split j (n - j) i) ∙ low (marks_from f (i + j) (n - j)) j (marks_lt j i)

  -- no digit 1, no yes
  pub marks_none : (n i : ℕ) → marks_from f i n ≡ 0 → (k : ℕ) → i ≤ k → k < i + n → f k ≡ false
  unfolding marks_from
  marks_none zero i e k lo hi = absurd (omega arith)
  marks_none (suc n) i e k lo hi =
      let b : bit (f i) ≡ 0 = omega arith in
      let r : marks_from f (suc i) n ≡ 0 = omega arith in
      ⊎_elim (λ q. rw (← q) (bit_none (f i) b)) (λ l. marks_none n (suc i) r k l (omega arith)) (eq-or-lt_of_le lo)

  -- a number from 2 ^ j to below twice that: answer j is yes, and none after it
  module _ (n i j : ℕ) (from : 2 ^ j ≤ marks_from f i n) (to : marks_from f i n < 2 ^ suc j) where
    top_lt : j < n
    top_lt = lt_of_not-le (λ (h : n ≤ j). lt_irrefl (2 ^ j) (lt_of_le_of_lt from (lt_of_lt_of_le (marks_lt n i) (pow_mono h))))

    -- the answers after it and those up to it
    after : marks_from f i n ≡ marks_from f (i + suc j) (n - suc j) * 2 ^ suc j + marks_from f i (suc j)
    after = let e : suc j + (n - suc j) ≡ n = omega (arith, top_lt) in rw e at (marks_split (suc j) (n - suc j) i)

    none_after : marks_from f (i + suc j) (n - suc j) ≡ 0
    none_after = high_none (marks_from f (i + suc j) (n - suc j)) (suc j) (marks_from f i (suc j)) (rw (← after) to)

    upto : marks_from f i (j + 1) ≡ marks_from f i n
    upto = let e : j + 1 ≡ suc j = omega arith in rw e (sym (after ∙ rw none_after (omega arith)))

    yes_there : f (i + j) ≡ true
    unfolding marks_from
    yes_there =
        let there : marks_from f (i + j) 1 ≡ bit (f (i + j)) = omega arith in
        bit_one (f (i + j)) (rw there at (high_some (marks_from f (i + j) 1) j (marks_from f i j) (marks_lt j i) (rw (← marks_split j 1 i, upto) from)))

    top : (j < n) × (f (i + j) ≡ true) × ((k : ℕ) → i + j < k → k < i + n → f k ≡ false)
    top = (top_lt, yes_there, λ k lo hi. marks_none (n - suc j) (i + suc j) none_after k (omega arith) (omega (arith, top_lt)))

  -- the last yes: the highest digit 1 stands there
  pub marks_last : (n i : ℕ) → n ≤ 32 → 0 < marks_from f i n
      → (31 - count_leading_zeros 32 (marks_from f i n) < n) × (f (i + (31 - count_leading_zeros 32 (marks_from f i n))) ≡ true)
      × ((k : ℕ) → i + (31 - count_leading_zeros 32 (marks_from f i n)) < k → k < i + n → f k ≡ false)
  marks_last n i h p =
      let t = leading_top 32 (marks_from f i n) p (lt_of_lt_of_le (marks_lt n i) (pow_mono h)) in
      let e : 31 - count_leading_zeros 32 (marks_from f i n) ≡ t.0 = omega arith in
      rw e (top n i t.0 t.2 t.3)
