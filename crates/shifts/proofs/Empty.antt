-- The empty sheet: it may be added, and of the sheets that may it changes exactly those that are not sorted, whichever of the two stands first.
use Rattle.std.proofs.Common.{Some}
use mathlib.Core.Path.{◌≡◌, refl, sym, ap₂, ◌∙◌}
use mathlib.Core.Bool.{true, false}
use mathlib.Core.Logic.{◌↔◌}
use mathlib.Core.List.{List, [], ◌∷◌}
use Prim.Native.Nat.{ℕ, zero, suc, ◌+◌, ◌≤◌}
use native.Mathlib.Omega.{arith}
use lib.ListN.{length, replicate}
use Rattle.text.specs.Number.{digits_of}
use Rattle.text.proofs.Bools.{or_l, or_r, and_l, and_r}
use Rattle.words.specs.Scale.{scale_word}
use Rattle.bill.specs.Rows.{Row}
use Rattle.bill.specs.Scale.{scale_text}
use Rattle.bill.specs.Text.{rows_text, section_text, sheet_text}
use Rattle.bill.specs.Verdict.{accepted_text}
use Rattle.bill.specs.Reading.{Bill, bill_text}
use Rattle.bill.proofs.Readings.{read_print}
use Rattle.sorting.specs.Sets.{under, rising}
use Rattle.sorting.proofs.Meets.{meets_none}
use Rattle.shifts.specs.Sound.{names, not_count, some_row, too_many, sound_sheet}
use Rattle.shifts.specs.Sum.{rows_of, plus, add_rows, no_core, no_process, sum, clash, refusal, Text, total_by, add_texts}
use Rattle.shifts.specs.Empty.{empty_bill, is_sorted}
use Rattle.shifts.proofs.Nothing.{nothing}
use Rattle.shifts.proofs.Merges.{add_step, add_end}
use Rattle.shifts.proofs.Fine.{Fine, equal, sound_is, fine_printed}
use Rattle.shifts.proofs.Refusals.{addable_exactly}
use Rattle.shifts.proofs.Totals.{cores_rise, processes_rise}
use Rattle.shifts.proofs.Many.{sum_sound}
use Rattle.shifts.proofs.Turned.{texts_turned}

-- its bytes, in nanoseconds
pub empty_bytes : bill_text (empty_bill 2) ≡ nothing
unfolding bill_text accepted_text scale_text scale_word digits_of sheet_text section_text rows_text
empty_bytes = refl

-- ---- it may be added

empty_fine : (n : ℕ) → 1 ≤ n → n ≤ 5 → Fine (empty_bill n)
unfolding too_many names rows_of
empty_fine n low high = record {
  low = low;
  high = high;
  short = omega arith;
  core_names = refl;
  process_names = refl;
  core_counts = refl;
  process_counts = refl;
  cores_once = refl;
  processes_once = refl;
  apart = refl;
  few = refl;
  spans = refl;
  charges = refl;
}

pub empty_sound : (n : ℕ) → 1 ≤ n → n ≤ 5 → sound_sheet (bill_text (empty_bill n)) ≡ Some (empty_bill n)
empty_sound n low high = fine_printed (empty_bill n) (empty_fine n low high)

-- ---- a section in order, and one without rows added to it

plus_zeros : (k : ℕ) (u : List ℕ) → length u ≡ k → plus u (replicate k 0) ≡ u
plus_zeros zero [] e = refl
plus_zeros zero (x ∷ u) e = refl
plus_zeros (suc k) [] e = absurd (omega arith)
plus_zeros (suc k) (x ∷ u) e = let z : x + 0 ≡ x = omega arith in rw (z, plus_zeros k u (omega arith))

add_none : (x : List ℕ) (k : ℕ) (rs : List Row) → some_row (not_count k) rs ≡ false → rising (names rs) ≡ true → add_rows x (replicate k 0) rs [] ≡ rs
unfolding rising names rows_of
add_none x k [] c o = add_end x (replicate k 0)
add_none x k (r ∷ rs) c o =
    let l = equal (length r.figures) k (or_l (not_count k r.figures) (some_row (not_count k) rs) c) in
    let ih = add_none x k rs (or_r (not_count k r.figures) (some_row (not_count k) rs) c) (and_r (under r.name (names rs)) (rising (names rs)) o) in
    add_step x (replicate k 0) (r ∷ rs) [] o refl (omega arith)
    ∙ ap₂ (λ (fs : List ℕ) (qs : List Row). record { name = r.name; figures = fs } ∷ qs) (plus_zeros k r.figures l) ih

-- ---- a sorted bill, and the empty one added to it

module _ (b : Bill) (f : Fine b) (o : is_sorted b ≡ true) where
  sum_empty : sum b (empty_bill b.scale) ≡ b
  unfolding sum
  sum_empty i = record {
    scale = b.scale;
    sheet = record {
      span = spans i;
      cores = add_none (no_core b) 3 b.sheet.cores f.core_counts (and_l (rising (names b.sheet.cores)) (rising (names b.sheet.processes)) o) i;
      processes = add_none no_process 1 b.sheet.processes f.process_counts (and_r (rising (names b.sheet.cores)) (rising (names b.sheet.processes)) o) i;
    };
  }
    where
      spans : b.sheet.span + 0 ≡ b.sheet.span
      spans = omega arith

  not_refused : refusal b (empty_bill b.scale) ≡ 0
  unfolding clash names rows_of
  not_refused = (addable_exactly b (empty_bill b.scale)).1 (record {
    scales = refl;
    apart = rw (meets_none (names b.sheet.cores));
    few = rw sum_empty f.few;
    short = omega (arith, f.short);
  })

-- ---- a text that may be added, and the empty sheet's

text_of : (n : ℕ) (s : Bill) (t : List ℕ) → total_by n s ≡ Text t → (n ≡ 0) × (bill_text s ≡ t)
text_of zero s t e = (refl, cc)
text_of (suc n) s t e = (cc, cc)

module _ (t : List ℕ) (b : Bill) (s : sound_sheet t ≡ Some b) where
  shown : Fine b
  shown = (sound_is t b s).1

  added : add_texts t (bill_text (empty_bill b.scale)) ≡ total_by (refusal b (empty_bill b.scale)) (sum b (empty_bill b.scale))
  unfolding add_texts
  added = rw (s, empty_sound b.scale shown.low shown.high)

  -- a sum is sorted, and where t is its text it is the bill that t shows
  then_sorted : add_texts t (bill_text (empty_bill b.scale)) ≡ Text t → is_sorted b ≡ true
  then_sorted e =
      let empty = empty_bill b.scale in
      let w = text_of (refusal b empty) (sum b empty) t (sym added ∙ e) in
      let k = sum_sound b empty shown (empty_fine b.scale shown.low shown.high) w.0 in
      let q : sum b empty ≡ b = cc in
      rw (rw q at (cores_rise b empty), rw q at (processes_rise b empty))

  pub empty_after : is_sorted b ≡ true → add_texts t (bill_text (empty_bill b.scale)) ≡ Text t
  empty_after o = added ∙ rw (not_refused b shown o, sum_empty b shown o, (read_print t b (sound_is t b s).0).text)

  pub empty_before : is_sorted b ≡ true → add_texts (bill_text (empty_bill b.scale)) t ≡ Text t
  empty_before o = texts_turned (bill_text (empty_bill b.scale)) t ∙ empty_after o

  pub empty_exactly : (add_texts t (bill_text (empty_bill b.scale)) ≡ Text t) ↔ (is_sorted b ≡ true)
  empty_exactly = (then_sorted, empty_after)
