-- What is refused of what was lent, and what it means that nothing is.
use mathlib.Core.Path.{◌≡◌, refl}
use mathlib.Core.Bool.{Bool, true, false, cond}
use mathlib.Core.List.{List}
use Rattle.std.specs.Prelude.{Some, Result, Ok, Err, IsErrAnd}
use Prim.Native.Nat.{ℕ, ◌≤◌, ◌<◌}
use native.Mathlib.Omega.{arith}
use lib.Dec.{eqb}
use lib.ListN.{length}
use borrow.Author.Tests.{eq-eqb, eqb-true}
use Rattle.tables.specs.Sized.{Sized, is_sized}
use Rattle.tables.proofs.Means.{Means, means_le, means_eq, means_and}
use Rattle.tables.proofs.Sizes.{sizes_mean}
use Rattle.ranges.specs.Range.{in_range, table_answer}
use Rattle.ranges.proofs.FreshTables.{fresh_answer}
use Rattle.judge.specs.Feed.{Tables, fresh_tables}
use Rattle.run.specs.Report.{text_most}
use Rattle.input.specs.declared.reads.ReadError.{ReadError}
use Rattle.input.specs.declared.reads.ReadError.TheVariants.{Failed, WrongSize, OutOfRange}
use Rattle.input.specs.Reads.{buffer_size, error_number, input_refusal, Taken}
use Rattle.input.specs.Whole.{Lent, are_sized, size_refusal, lent_refusal}

-- a test whose failure is 15
passed : (x : Bool) (n : ℕ) → cond x n 15 ≡ 0 → x ≡ true
passed true n z = refl
passed false n z = absurd (omega (arith, z))

-- ---- `read_all`

pub buffer_sized : (t : Tables) (b : List ℕ) → input_refusal t b ≡ 0 → length b ≡ buffer_size
unfolding input_refusal
buffer_sized t b e = eqb-true (length b) buffer_size (passed (eqb (length b) buffer_size) _ e)

-- there is no other answer
pub other_16 : {x : ℕ} (names nums ticks : List ℕ) → x ≡ table_answer names nums ticks → (x ≡ 0 → ⊥) → (x ≡ 15 → ⊥) → x ≡ 16
unfolding table_answer
other_16 {x} names nums ticks = by_tests (is_sized (length names) (length nums) (length ticks)) (in_range names nums ticks)
  where
    by_tests : (a b : Bool) → x ≡ cond a (cond b 0 16) 15 → (x ≡ 0 → ⊥) → (x ≡ 15 → ⊥) → x ≡ 16
    by_tests true true e n m = absurd (n e)
    by_tests true false e n m = e
    by_tests false b e n m = absurd (m e)

pub fresh_taken : (b : List ℕ) → length b ≡ buffer_size → input_refusal fresh_tables b ≡ 0
unfolding input_refusal
fresh_taken b e = rw (eq-eqb (length b) buffer_size e) fresh_answer

-- the error of what is refused, where nothing was read
pub refused : {t : Tables} {b : List ℕ} (e : ReadError) → error_number e ≡ Some (input_refusal t b) → Taken (Err e) t b t b
refused Failed p = cc
refused WrongSize p = record { number = cc; leaves = (refl, refl) }
refused OutOfRange p = record { number = cc; leaves = (refl, refl) }

-- an error that `?` hands on is the same
pub handed_on : {A E : Type 0} {e : E} (r : Result A E) → IsErrAnd r (λ x. x ≡ e) → r ≡ Err e
handed_on (Ok a) w = absurd w
handed_on (Err x) w = rw w

-- ---- `text_of_input`

module _ (l : Lent) where
  abbrev pub RightSizes : Type 0
  RightSizes = Sized l.tables.names l.tables.nums l.tables.ticks × ((length l.buffer ≡ buffer_size) × (text_most ≤ length l.output))

  abbrev test : Bool
  test = are_sized (length l.tables.names) (length l.tables.nums) (length l.tables.ticks) (length l.buffer) (length l.output)

  test_means : Means test RightSizes
  unfolding are_sized
  test_means =
      means_and (sizes_mean l.tables.names l.tables.nums l.tables.ticks)
      (means_and (means_eq (length l.buffer) buffer_size) (means_le text_most (length l.output)))

  pub sizes_right : lent_refusal l ≡ 0 → RightSizes
  unfolding size_refusal
  sizes_right e = test_means.holds (passed test 0 e)

  pub right_sizes : RightSizes → lent_refusal l ≡ 0
  unfolding size_refusal
  right_sizes s = rw (test_means.shows s)

  -- by the code's test
  pub wrong_sizes : test ≡ false → lent_refusal l ≡ 15
  unfolding size_refusal
  wrong_sizes e = rw e

  pub all_sized : test ≡ true → lent_refusal l ≡ 0
  unfolding size_refusal
  all_sized e = rw e

  pub only_15 : 0 < lent_refusal l → lent_refusal l ≡ 15
  unfolding size_refusal
  only_15 = by_test test
    where
      by_test : (x : Bool) → 0 < cond {A = ℕ} x 0 15 → cond {A = ℕ} x 0 15 ≡ 15
      by_test true h = absurd (omega (arith, h))
      by_test false h = refl
