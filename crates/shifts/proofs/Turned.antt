-- Two sheets either way round: the same sum, the same refusal, and so the same bytes. 02, No. 12: "Prove of adding (No. 2) that order and grouping don't matter".
use Rattle.std.proofs.Common.{Option, None, Some}
use mathlib.Core.Path.{◌≡◌, refl, sym, ap, ap₂, fun_ext, ◌∙◌}
use mathlib.Core.Bool.{or_comm}
use mathlib.Core.Logic.{◌⊎◌, inl, inr}
use mathlib.Core.List.{List, [], ◌∷◌}
use Prim.Native.Nat.{ℕ, zero, suc, ◌+◌}
use native.Mathlib.Omega.{arith}
use borrow.Author.Tests.{ne_eqb}
use Rattle.text.proofs.Bools.{same_or_not}
use Rattle.bill.specs.declared.section.Section.{Section}
use Rattle.bill.specs.declared.section.Section.TheVariants.{Cores, Processes}
use Rattle.bill.specs.Rows.{Row}
use Rattle.bill.specs.Reading.{Bill, bill_text, rows_in}
use Rattle.sorting.specs.Sets.{meets}
use Rattle.sorting.proofs.Sets.{sorted_two}
use Rattle.shifts.specs.Sound.{names, sound_sheet}
use Rattle.shifts.specs.Sum.{plus, figures_of, rows_of, add_rows, missing, add_section, sum, clash, refusal, Text, total_by, add_sound, add_texts}
use Rattle.shifts.proofs.Fine.{no_other}
use Rattle.shifts.proofs.Refusals.{addable_exactly}

-- ---- rows

pub plus_turned : (u v : List ℕ) → plus u v ≡ plus v u
plus_turned [] [] = refl
plus_turned [] (y ∷ v) = refl
plus_turned (x ∷ u) [] = refl
plus_turned (x ∷ u) (y ∷ v) = let e : x + y ≡ y + x = omega arith in rw (e, plus_turned u v)

pub add_turned : (x y : List ℕ) (rs qs : List Row) → add_rows x y rs qs ≡ add_rows y x qs rs
unfolding add_rows
add_turned x y rs qs = ap₂ rows_of (fun_ext (λ n. plus_turned (figures_of x rs n) (figures_of y qs n))) (sorted_two (names rs) (names qs))

-- ---- two bills

module _ (a b : Bill) where
  section_turned : (s : Section) → add_section s a b ≡ add_section s b a
  section_turned s = add_turned (missing s a) (missing s b) (rows_in s a) (rows_in s b)

  spans_turned : a.sheet.span + b.sheet.span ≡ b.sheet.span + a.sheet.span
  spans_turned = omega arith

  pub sum_turned : a.scale ≡ b.scale → sum a b ≡ sum b a
  unfolding sum
  sum_turned e i = record {
    scale = e i;
    sheet = record { span = spans_turned i; cores = section_turned Cores i; processes = section_turned Processes i };
  }

  clash_turned : clash a b ≡ clash b a
  unfolding clash
  clash_turned = or_comm (meets (names a.sheet.cores) (names b.sheet.processes)) (meets (names b.sheet.cores) (names a.sheet.processes))

  -- where the scales differ both are 22, and otherwise all that is tested is the same
  pub refusal_turned : refusal a b ≡ refusal b a
  unfolding refusal
  refusal_turned = by_scales (same_or_not a.scale b.scale)
    where
      by_scales : (a.scale ≡ b.scale) ⊎ (a.scale ≡ b.scale → ⊥) → refusal a b ≡ refusal b a
      by_scales (inl e) = rw (no_other a.scale b.scale e, no_other b.scale a.scale (sym e), clash_turned, sum_turned e, spans_turned)
      by_scales (inr d) = rw (ne_eqb a.scale b.scale d, ne_eqb b.scale a.scale (λ e. d (sym e)))

-- ---- two texts

pub texts_turned : (t u : List ℕ) → add_texts t u ≡ add_texts u t
unfolding add_texts
texts_turned t u = by_bills (sound_sheet t) (sound_sheet u)
  where
    by_number : (a b : Bill) (n : ℕ) → refusal a b ≡ n → total_by n (sum a b) ≡ total_by n (sum b a)
    by_number a b zero e = ap (λ (s : Bill). Text (bill_text s)) (sum_turned a b ((addable_exactly a b).0 e).scales)
    by_number a b (suc n) e = refl

    by_bills : (o p : Option Bill) → add_sound o p ≡ add_sound p o
    by_bills None None = refl
    by_bills None (Some b) = refl
    by_bills (Some a) None = refl
    by_bills (Some a) (Some b) = by_number a b (refusal a b) refl ∙ rw (refusal_turned a b)
