-- Where the first yes stands.
use Rattle.std.proofs.Common.{◌≡◌, ℕ, zero, suc, ◌+◌, ◌<◌, ◌≤◌, Bool, true, false, cond, leb, refl, ⊎_elim, add-zero, suc-add, eq-or-lt_of_le, zero-add, arith, le-leb, leb-true}
use lib.Dec.{leb-suc-suc, leb-suc-zero}
use Rattle.text.proofs.Bools.{and_l, and_r}
use Rattle.marks.specs.First.{before}
use Rattle.marks.specs.Marks.{from_on}

split_step : (b c : Bool) (m k x r : ℕ) → leb m k ≡ c → r ≡ cond c (m + x) k → cond b 0 (suc r) ≡ cond (leb (suc m) (cond b 0 (suc k))) (suc m + x) (cond b 0 (suc k))
split_step true c m k x r t e = rw leb-suc-zero
split_step false true m k x r t e = rw (leb-suc-suc, t, e, suc-add)
split_step false false m k x r t e = rw (leb-suc-suc, t, e)

module _ (f : ℕ → Bool) where
  -- no more stand before it than are asked, it is a yes where there is one, and all before it are no
  abbrev Stands : ℕ → ℕ → ℕ → Type 0
  Stands i n k = (k ≤ n) × (k < n → f (i + k) ≡ true) × ((j : ℕ) → i ≤ j → j < i + k → f j ≡ false)

  stands_step : (b : Bool) (i n k : ℕ) → f i ≡ b → Stands (suc i) n k → Stands i (suc n) (cond b 0 (suc k))
  stands_step true i n k e h = (omega arith, λ l. rw add-zero e, λ j lo hi. absurd (omega arith))
  stands_step false i n k e h =
      let q : suc i + k ≡ i + suc k = omega arith in
      (omega arith, λ l. rw q at (h.1 (omega arith)), λ j lo hi. ⊎_elim (λ s. rw s at e) (λ l. h.2 j l (omega arith)) (eq-or-lt_of_le lo))

  stands : (i n : ℕ) → Stands i n (before f i n)
  unfolding before
  stands i zero = (omega arith, λ l. absurd (omega arith), λ j lo hi. absurd (omega arith))
  stands i (suc n) = stands_step (f i) i n (before f (suc i) n) refl (stands (suc i) n)

  pub before_le : (i n : ℕ) → before f i n ≤ n
  before_le i n = (stands i n).0

  pub found : (i n : ℕ) → before f i n < n → f (i + before f i n) ≡ true
  found i n = (stands i n).1

  pub missed : (i n j : ℕ) → i ≤ j → j < i + before f i n → f j ≡ false
  missed i n = (stands i n).2

  -- of m numbers and n after them: the first of the m, and where they have none, the first of the n
  pub before_split : (i m n : ℕ) → before f i (m + n) ≡ cond (leb m (before f i m)) (m + before f (i + m) n) (before f i m)
  unfolding before
  before_split i zero n = rw (zero-add n, zero-add (before f (i + 0) n), add-zero i)
  before_split i (suc m) n =
      let q : i + suc m ≡ suc i + m = omega arith in
      rw (suc-add m n, q) (split_step (f i) (leb m (before f (suc i) m)) m (before f (suc i) m) (before f (suc i + m) n) (before f (suc i) (m + n)) refl (before_split (suc i) m n))

-- ---- the first yes from a number on

module _ (f : ℕ → Bool) (a i n : ℕ) where
  pub found_from : before (from_on a f) i n < n → (f (i + before (from_on a f) i n) ≡ true) × (a ≤ i + before (from_on a f) i n)
  unfolding from_on
  found_from h =
      let k : ℕ = i + before (from_on a f) i n in
      let r = found (from_on a f) i n h in
      (and_r (leb a k) (f k) r, leb-true a k (and_l (leb a k) (f k) r))

  pub missed_from : (j : ℕ) → a ≤ j → i ≤ j → j < i + before (from_on a f) i n → f j ≡ false
  unfolding from_on
  missed_from j h lo hi = rw (le-leb a j h) at (missed (from_on a f) i n j lo hi)
