-- Sheets that may be added, by their parts: `Fine b` names each test that a sound bill passes.
use Rattle.std.proofs.Common.{Option, None, Some}
use mathlib.Core.Path.{◌≡◌, refl}
use mathlib.Core.Bool.{Bool, true, false, not, cond}
use mathlib.Core.Logic.{◌↔◌}
use mathlib.Core.List.{List, [], ◌∷◌}
use Prim.Native.Nat.{ℕ, ◌+◌, ◌≤◌}
use native.Mathlib.Omega.{arith}
use lib.Dec.{eqb, leb, ltb}
use lib.ListN.{length}
use borrow.Author.Tests.{eqb-true, eq-eqb, leb-true, le-leb, ltb-false, le-ltb, not-false}
use Rattle.text.specs.Sizes.{max_time, name_limit, core_limit}
use Rattle.text.proofs.Bools.{or_l, or_r}
use Rattle.bill.specs.Rows.{Row, all_named}
use Rattle.bill.specs.Reading.{Bill, bill_text, read_sheet}
use Rattle.bill.proofs.Readings.{print_read}
use Rattle.sorting.specs.Sets.{meets, twice}
use Rattle.shifts.specs.Sound.{names, firsts, not_count, not_total, some_row, too_many, shape_tests, sum_tests, any_of, malformed, unsound, sound_only, sound_sheet}

pub record Fine (b : Bill) : Type 0 where
  pub low : 1 ≤ b.scale
  pub high : b.scale ≤ 5
  pub short : b.sheet.span ≤ max_time
  pub core_names : all_named b.sheet.cores ≡ true
  pub process_names : all_named b.sheet.processes ≡ true
  pub core_counts : some_row (not_count 3) b.sheet.cores ≡ false
  pub process_counts : some_row (not_count 1) b.sheet.processes ≡ false
  pub cores_once : twice (names b.sheet.cores) ≡ false
  pub processes_once : twice (names b.sheet.processes) ≡ false
  pub apart : meets (names b.sheet.cores) (names b.sheet.processes) ≡ false
  pub few : too_many b.sheet.cores b.sheet.processes ≡ false
  pub spans : some_row (not_total b.sheet.span) b.sheet.cores ≡ false
  pub charges : firsts b.sheet.cores ≡ firsts b.sheet.processes

-- ---- tests that all fail

abbrev pub AllFail : List Bool → Type 0
AllFail [] = Unit {0}
AllFail (b ∷ bs) = (b ≡ false) × AllFail bs

pub all_fail : (bs : List Bool) → any_of bs ≡ false → AllFail bs
all_fail [] e = tt
all_fail (b ∷ bs) e = (or_l b (any_of bs) e, all_fail bs (or_r b (any_of bs) e))

pub equal : (m n : ℕ) → not (eqb m n) ≡ false → m ≡ n
equal m n e = eqb-true m n (not-false (eqb m n) e)

pub no_other : (m n : ℕ) → m ≡ n → not (eqb m n) ≡ false
no_other m n e = rw (eq-eqb m n e)

at_most : (m n : ℕ) → not (leb m n) ≡ false → m ≤ n
at_most m n e = leb-true m n (not-false (leb m n) e)

-- ---- sound is fine, and fine is sound

module _ (b : Bill) where
  pub fine : unsound b ≡ false → Fine b
  unfolding unsound malformed shape_tests sum_tests
  fine e =
      let w = all_fail (shape_tests b) (or_l (any_of (shape_tests b)) (any_of (sum_tests b)) e) in
      let v = all_fail (sum_tests b) (or_r (any_of (shape_tests b)) (any_of (sum_tests b)) e) in
      let k = w.1.1.1 in
      let r = k.1.1.1.1 in
      record {
        low = at_most 1 b.scale w.0;
        high = at_most b.scale 5 w.1.0;
        short = ltb-false max_time b.sheet.span w.1.1.0;
        core_names = not-false (all_named b.sheet.cores) k.0;
        process_names = not-false (all_named b.sheet.processes) k.1.0;
        core_counts = k.1.1.0;
        process_counts = k.1.1.1.0;
        cores_once = r.0;
        processes_once = r.1.0;
        apart = r.1.1.0;
        few = r.1.1.1.0;
        spans = v.0;
        charges = equal (firsts b.sheet.cores) (firsts b.sheet.processes) v.1.0;
      }

  well_formed : Fine b → malformed b ≡ false
  unfolding malformed shape_tests
  well_formed f =
      rw (
        le-leb 1 b.scale f.low,
        le-leb b.scale 5 f.high,
        le-ltb max_time b.sheet.span f.short,
        f.core_names,
        f.process_names,
        f.core_counts,
        f.process_counts,
        f.cores_once,
        f.processes_once,
        f.apart,
        f.few,
      )

  pub fine_sound : Fine b → unsound b ≡ false
  unfolding unsound sum_tests
  fine_sound f = rw (well_formed f, f.spans, no_other (firsts b.sheet.cores) (firsts b.sheet.processes) f.charges)

-- ---- the counts

module _ (cs ps : List Row) (e : too_many cs ps ≡ false) where
  pub few_cores : length cs ≤ core_limit
  unfolding too_many
  few_cores = ltb-false core_limit (length cs) (or_l (ltb core_limit (length cs)) (ltb name_limit (length cs + length ps)) e)

  pub few_names : length cs + length ps ≤ name_limit
  unfolding too_many
  few_names = ltb-false name_limit (length cs + length ps) (or_r (ltb core_limit (length cs)) (ltb name_limit (length cs + length ps)) e)

-- ---- the bill of a text

only_sound : (o : Option Bill) (b : Bill) → sound_only o ≡ Some b → (o ≡ Some b) × (unsound b ≡ false)
only_sound None b e = (cc, cc)
only_sound (Some a) b e = by_test (unsound a) refl e
  where
    by_test : (c : Bool) → unsound a ≡ c → cond c None (Some a) ≡ Some b → (Some a ≡ Some b) × (unsound b ≡ false)
    by_test true u e = (cc, cc)
    by_test false u e = let s : a ≡ b = cc in (e, rw (← s) u)

module _ (t : List ℕ) (b : Bill) where
  pub sound_is : sound_sheet t ≡ Some b → (read_sheet t ≡ Some b) × Fine b
  unfolding sound_sheet
  sound_is e = let w = only_sound (read_sheet t) b e in (w.0, fine b w.1)

  pub is_sound_lem : read_sheet t ≡ Some b → Fine b → sound_sheet t ≡ Some b
  unfolding sound_sheet
  is_sound_lem r f = rw (r, fine_sound b f)

-- what is printed of a bill that may be added
pub fine_printed : (b : Bill) → Fine b → sound_sheet (bill_text b) ≡ Some b
fine_printed b f = is_sound_lem (bill_text b) b (print_read b f.low f.high f.core_names f.process_names) f

-- a text may not be added exactly if it shows no such bill
pub unsound_is : (t : List ℕ) → (sound_sheet t ≡ None) ↔ ((b : Bill) → read_sheet t ≡ Some b → Fine b → ⊥)
unsound_is t = (there, by_bill (sound_sheet t) refl)
  where
    there : sound_sheet t ≡ None → (b : Bill) → read_sheet t ≡ Some b → Fine b → ⊥
    there e b r f = let s = is_sound_lem t b r f in let z : ◌≡◌ {A = ℕ} 0 1 = cc in omega arith

    by_bill : (o : Option Bill) → sound_sheet t ≡ o → ((b : Bill) → read_sheet t ≡ Some b → Fine b → ⊥) → o ≡ None
    by_bill None e h = refl
    by_bill (Some b) e h = let w = sound_is t b e in absurd (h b w.0 w.1)
