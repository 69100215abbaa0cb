-- Rows of instances looked at together, as marks in one number.
use Rattle.std.proofs.Common.{Some}
use mathlib.Core.Path.{◌≡◌, sym, ap, ◌∙◌}
use mathlib.Core.Bool.{Bool, ◌&&◌, cond}
use mathlib.Core.List.{List}
use Prim.Native.Nat.{ℕ, suc, ◌+◌, ◌-◌, ◌*◌, ◌%◌, ◌^◌, ◌≤◌, ◌<◌, min}
use native.Mathlib.Nat.{min-le_left, one-mul, pow-suc}
use native.Mathlib.Omega.{arith}
use lib.Count.{count_leading_zeros}
use lib.Dec.{eqb}
use lib.ListN.{length}
use lib.Pow.{shl_exact}
use borrow.Author.Tests.{lt-ltb, le-ltb}
use Rattle.marks.specs.Marks.{marks_from}
use Rattle.marks.proofs.Lasts.{marks_more, marks_front, marks_none, marks_last}
use Rattle.tables.specs.Entry.{instance_rows, nums_size, instance_count, owner_at, instance_at}
use Rattle.lookup.specs.Find.{last_below, instance_is, find_instance}
use Rattle.lookup.proofs.Found.{last_over, instance_found}

-- ---- weights, as code makes them

pub weight_next : (k w : ℕ) → w ≡ 2 ^ k → w + w ≡ 2 ^ (k + 1)
weight_next k w e = let n : k + 1 ≡ suc k = omega arith in rw n (omega (arith, pow-suc 2 k))

pub weight_of : (k : ℕ) → k < 32 → (1 * 2 ^ k) % 2 ^ 32 ≡ 2 ^ k
weight_of k h = shl_exact 1 k 32 (omega arith) (omega arith) ∙ one-mul (2 ^ k)

-- ---- the last that passes a test, by marks

module _ (f : ℕ → Bool) where
  -- of sixteen answers the first n
  pub front_marked : (n at m : ℕ) → n ≤ 16 → m ≡ marks_from f at 16 → m % ((1 * 2 ^ n) % 2 ^ 32) ≡ marks_from f at n
  front_marked n at m h e = rw (weight_of n (omega arith), e) (marks_front f 16 at n h)

  -- it is that of the last mark, or, with no mark, the last below
  module _ (n at to m : ℕ) (ends : at + n ≡ to) (marks : m ≡ marks_from f at n) where
    pub last_marked : n ≤ 32 → (m ≡ 0 → ⊥) → last_below f to ≡ Some (at + (31 - count_leading_zeros 32 m))
    unfolding last_below
    last_marked h some =
        let l = rw (← marks) at (marks_last f n at h (rw (← marks) (omega arith))) in
        last_over f (suc (at + (31 - count_leading_zeros 32 m))) to (omega arith) (λ k lo hi. l.2 k lo (rw ends hi)) ∙ rw l.1

    pub last_unmarked : m ≡ 0 → last_below f to ≡ last_below f at
    last_unmarked none = last_over f at to (omega arith) (λ k lo hi. marks_none f n at (sym marks ∙ none) k lo (rw ends hi))

-- ---- rows of instances

module _ (nums : List ℕ) (owner number : ℕ) where
  -- of a row that there is, its number and its owner decide
  instance_row : (j : ℕ) → j < instance_rows → instance_is nums owner number j ≡ eqb (instance_at nums j) number && eqb (owner_at nums j) owner
  unfolding instance_is
  instance_row j h = rw (lt-ltb j instance_rows h)

  -- one row more, by its weight
  pub row_marked : (at k m w r : ℕ) → at + k < instance_rows → m ≡ marks_from (instance_is nums owner number) at k → w ≡ 2 ^ k
      → r ≡ cond (eqb (instance_at nums (at + k)) number && eqb (owner_at nums (at + k)) owner) w 0 → m + r ≡ marks_from (instance_is nums owner number) at (k + 1)
  row_marked at k m w r h marks weight e =
      rw (e, marks, weight) (sym (marks_more (instance_is nums owner number) k at _ (instance_row (at + k) h)))

  -- no row past those that there are is an instance
  rows_enough : (n : ℕ) → last_below (instance_is nums owner number) n ≡ last_below (instance_is nums owner number) (min n instance_rows)
  unfolding instance_is
  rows_enough n = last_over (instance_is nums owner number) (min n instance_rows) n (min-le_left n instance_rows) (λ k lo hi. rw (le-ltb k instance_rows (omega arith)))

  pub instance_below : (n : ℕ) → length nums ≡ nums_size → n ≡ min (instance_count nums) instance_rows → find_instance nums owner number ≡ last_below (instance_is nums owner number) n
  instance_below n h e = instance_found nums owner number h ∙ rows_enough (instance_count nums) ∙ ap (last_below (instance_is nums owner number)) (sym e)
