-- Bills that may be added, all together: `Fit bs` names each test that they pass. All pass exactly if the two parts do, and the sums of the two may be added
-- (`both_fit`, `parts_fit`).
use mathlib.Core.Path.{◌≡◌, refl, sym, ap, ap₂, subst, ◌∙◌}
use mathlib.Core.Bool.{false, not, ◌||◌}
use mathlib.Core.Logic.{◌↔◌}
use mathlib.Core.List.{List, [], ◌∷◌, ◌++◌}
use Prim.Native.Nat.{ℕ, ◌+◌, ◌≤◌}
use native.Mathlib.Omega.{arith}
use lib.Dec.{eqb}
use lib.ListN.{length, length-map}
use borrow.Author.Tests.{ltb-false, le-ltb}
use Rattle.text.specs.Sizes.{max_time, name_limit, core_limit}
use Rattle.text.proofs.Bools.{or_l, or_r}
use Rattle.text.proofs.Lists.{any_append}
use Rattle.bill.specs.declared.section.Section.{Section}
use Rattle.bill.specs.declared.section.Section.TheVariants.{Cores, Processes}
use Rattle.bill.specs.Rows.{Row}
use Rattle.bill.specs.Reading.{Bill, rows_in}
use Rattle.sorting.specs.Order.{Name}
use Rattle.sorting.specs.Sets.{meets, itself, sorted}
use Rattle.sorting.proofs.Rising.{length_first, length_second}
use Rattle.sorting.proofs.Meets.{meets_sorted}
use Rattle.sorting.proofs.Counts.{sorted_most}
use Rattle.shifts.specs.Sound.{names, too_many, any_of}
use Rattle.shifts.specs.Sum.{rows_of, by_name, sum, clash}
use Rattle.shifts.specs.Together.{names_in, figures_in, all_rows, span_of, first_scale, sum_of, others_than, all_tests}
use Rattle.shifts.proofs.Rows.{names_rows}
use Rattle.shifts.proofs.Fine.{Fine, all_fail, equal, no_other, few_cores, few_names}
use Rattle.shifts.proofs.Refusals.{Addable}
use Rattle.shifts.proofs.Totals.{mixed, mixed_sum}
use Rattle.shifts.proofs.Sums.{SumOf, alone_sum, names_append, both_sum, sum_is}

-- no condition on all of them holds: one scale, no name in both sections, at most 64 cores and 256 names, and their spans together at most 2^56 − 1
pub record Fit (bs : List Bill) : Type 0 where
  pub scales : others_than (first_scale bs) bs ≡ false
  pub apart : meets (names_in Cores bs) (names_in Processes bs) ≡ false
  pub few : too_many (all_rows Cores bs) (all_rows Processes bs) ≡ false
  pub short : span_of bs ≤ max_time

pub fit_exactly : (bs : List Bill) → (any_of (all_tests bs) ≡ false) ↔ Fit bs
unfolding all_tests
fit_exactly bs = (there, back)
  where
    there : any_of (all_tests bs) ≡ false → Fit bs
    there e =
        let w = all_fail (all_tests bs) e in
        record { scales = w.0; apart = w.1.0; few = w.1.1.0; short = ltb-false max_time (span_of bs) w.1.1.1.0 }

    back : Fit bs → any_of (all_tests bs) ≡ false
    back f = rw (f.scales, f.apart, f.few, le-ltb max_time (span_of bs) f.short)

-- ---- the counts

count_all : (s : Section) (bs : List Bill) → length (all_rows s bs) ≡ length (sorted (names_in s bs))
unfolding all_rows names rows_of
count_all s bs = sym (length-map (all_rows s bs) by_name) ∙ ap length (names_rows (figures_in s bs) (sorted (names_in s bs)))

-- the names are few where rows that are no fewer are
few_rows : (bs : List Bill) (rows : Section → List Row) → ((s : Section) → length (sorted (names_in s bs)) ≤ length (rows s)) →
    too_many (rows Cores) (rows Processes) ≡ false → too_many (all_rows Cores bs) (all_rows Processes bs) ≡ false
unfolding too_many
few_rows bs rows h e =
    let cores = length (all_rows Cores bs) in
    let processes = length (all_rows Processes bs) in
    let c : cores ≤ length (rows Cores) = omega (arith, count_all Cores bs, h Cores) in
    let p : processes ≤ length (rows Processes) = omega (arith, count_all Processes bs, h Processes) in
    rw (
      le-ltb core_limit cores (omega (arith, few_cores (rows Cores) (rows Processes) e)),
      le-ltb name_limit (cores + processes) (omega (arith, few_names (rows Cores) (rows Processes) e)),
    )

-- ---- no name in both sections: the names of a sum are those of all

mixed_all : (bs : List Bill) (b : Bill) → SumOf bs b → mixed b ≡ meets (names_in Cores bs) (names_in Processes bs)
mixed_all bs b f =
    sym (meets_sorted (names b.sheet.cores) (names b.sheet.processes)) ∙ ap₂ meets (f.listed Cores) (f.listed Processes)
    ∙ meets_sorted (names_in Cores bs) (names_in Processes bs)

-- ---- one bill by itself

pub alone_fit : (b : Bill) → Fine b → Fit (b ∷ [])
unfolding names rows_of
alone_fit b f = record {
  scales = rw (no_other b.scale b.scale refl);
  apart = sym (mixed_all (b ∷ []) b (alone_sum b)) ∙ f.apart;
  few = few_rows (b ∷ []) (λ s. rows_in s b) no_more f.few;
  short = omega (arith, f.short);
}
  where
    no_more : (s : Section) → length (sorted (names_in s (b ∷ []))) ≤ length (rows_in s b)
    no_more s = omega (arith, ap length ((alone_sum b).listed s), sorted_most itself (names (rows_in s b)), length-map (rows_in s b) by_name)

-- ---- two parts

module _ (x : Bill) (xs : List Bill) (y : Bill) (ys : List Bill) (a b : Bill) (f : SumOf (x ∷ xs) a) (g : SumOf (y ∷ ys) b) where
  -- each test on all, by what the parts and the two bills have
  scales_all : others_than x.scale (x ∷ xs ++ y ∷ ys) ≡ others_than x.scale (x ∷ xs) || others_than x.scale (y ∷ ys)
  scales_all = any_append (λ (b : Bill). not (eqb b.scale x.scale)) (x ∷ xs) (y ∷ ys)

  apart_all : meets (names_in Cores (x ∷ xs ++ y ∷ ys)) (names_in Processes (x ∷ xs ++ y ∷ ys)) ≡ mixed a || clash a b || mixed b
  apart_all = sym (mixed_all (x ∷ xs ++ y ∷ ys) (sum a b) (both_sum x xs (y ∷ ys) a b f g)) ∙ mixed_sum a b

  few_all : too_many (all_rows Cores (x ∷ xs ++ y ∷ ys)) (all_rows Processes (x ∷ xs ++ y ∷ ys)) ≡ too_many (sum a b).sheet.cores (sum a b).sheet.processes
  unfolding sum_of
  few_all = ap (λ (s : Bill). too_many s.sheet.cores s.sheet.processes) (sym (sum_is x xs (y ∷ ys) a b f g))

  span_all : span_of (x ∷ xs ++ y ∷ ys) ≡ a.sheet.span + b.sheet.span
  unfolding sum
  span_all = sym (both_sum x xs (y ∷ ys) a b f g).span

  count_both : (s : Section) → length (all_rows s (x ∷ xs ++ y ∷ ys)) ≡ length (sorted (names_in s (x ∷ xs) ++ names_in s (y ∷ ys)))
  count_both s = count_all s (x ∷ xs ++ y ∷ ys) ∙ ap (λ (ns : List Name). length (sorted ns)) (names_append s (x ∷ xs) (y ∷ ys))

  pub both_fit : Fit (x ∷ xs) → Fit (y ∷ ys) → Addable a b → Fit (x ∷ xs ++ y ∷ ys)
  both_fit u v k = record {
    scales = scales_all ∙ rw u.scales (subst (λ (n : ℕ). others_than n (y ∷ ys) ≡ false) (sym (sym f.scale ∙ k.scales ∙ g.scale)) v.scales);
    apart = apart_all ∙ rw (mixed_all (x ∷ xs) a f ∙ u.apart, k.apart, mixed_all (y ∷ ys) b g ∙ v.apart);
    few = few_all ∙ k.few;
    short = omega (arith, k.short, span_all);
  }

  module _ (h : Fit (x ∷ xs ++ y ∷ ys)) where
    one_scale : (others_than x.scale (x ∷ xs) ≡ false) × (others_than x.scale (y ∷ ys) ≡ false)
    one_scale =
        let e = sym scales_all ∙ h.scales in
        (or_l (others_than x.scale (x ∷ xs)) (others_than x.scale (y ∷ ys)) e, or_r (others_than x.scale (x ∷ xs)) (others_than x.scale (y ∷ ys)) e)

    same_scale : y.scale ≡ x.scale
    same_scale = equal y.scale x.scale (or_l (not (eqb y.scale x.scale)) (others_than x.scale ys) one_scale.1)

    each_apart : (mixed a ≡ false) × ((clash a b ≡ false) × (mixed b ≡ false))
    each_apart =
        let e = sym apart_all ∙ h.apart in
        let w = or_l (mixed a || clash a b) (mixed b) e in
        (or_l (mixed a) (clash a b) w, (or_r (mixed a) (clash a b) w, or_r (mixed a || clash a b) (mixed b) e))

    first_fit : Fit (x ∷ xs)
    first_fit = record {
      scales = one_scale.0;
      apart = sym (mixed_all (x ∷ xs) a f) ∙ each_apart.0;
      few = few_rows (x ∷ xs) (λ s. all_rows s (x ∷ xs ++ y ∷ ys)) (λ s. omega (arith, count_both s, length_first (names_in s (x ∷ xs)) (names_in s (y ∷ ys)))) h.few;
      short = omega (arith, h.short, span_all, f.span);
    }

    second_fit : Fit (y ∷ ys)
    second_fit = record {
      scales = ap (λ (n : ℕ). others_than n (y ∷ ys)) same_scale ∙ one_scale.1;
      apart = sym (mixed_all (y ∷ ys) b g) ∙ each_apart.1.1;
      few = few_rows (y ∷ ys) (λ s. all_rows s (x ∷ xs ++ y ∷ ys)) (λ s. omega (arith, count_both s, length_second (names_in s (x ∷ xs)) (names_in s (y ∷ ys)))) h.few;
      short = omega (arith, h.short, span_all, g.span);
    }

    addable : Addable a b
    addable = record {
      scales = f.scale ∙ sym same_scale ∙ sym g.scale;
      apart = each_apart.1.0;
      few = sym few_all ∙ h.few;
      short = omega (arith, h.short, span_all);
    }

  pub parts_fit : Fit (x ∷ xs ++ y ∷ ys) → Fit (x ∷ xs) × (Fit (y ∷ ys) × Addable a b)
  parts_fit h = (first_fit h, (second_fit h, addable h))
