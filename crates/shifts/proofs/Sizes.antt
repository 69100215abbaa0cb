-- How long texts get: the rows of a sum of two sound bills (`core_rows_most`, `process_rows_most`), and the text of a sound bill (`sound_longest`).
use Rattle.std.proofs.Common.{Some}
use mathlib.Core.Path.{◌≡◌, refl}
use mathlib.Core.Bool.{true, false}
use mathlib.Core.List.{List, [], ◌∷◌}
use Prim.Native.Nat.{ℕ, suc, ◌+◌, ◌*◌, ◌^◌, ◌≤◌, ◌<◌}
use native.Mathlib.Omega.{arith}
use lib.Dec.{ltb}
use lib.ListN.{length, length-append}
use borrow.Author.Tests.{ltb-false, le-ltb}
use Rattle.text.specs.Number.{digits_of}
use Rattle.text.specs.Name.{is_name}
use Rattle.text.specs.Sizes.{max_time, core_limit}
use Rattle.text.proofs.Bools.{or_l, or_r, and_l, and_r}
use Rattle.text.proofs.Digits.{digits_at_most}
use Rattle.text.proofs.Names.{name_length}
use Rattle.bill.specs.Rows.{Row, all_named}
use Rattle.bill.specs.Text.{figures_text, row_text, rows_text, sheet_text}
use Rattle.bill.specs.Reading.{Bill, bill_text}
use Rattle.bill.proofs.Texts.{length_row, length_section}
use Rattle.bill.proofs.VerdictLine.{length_accepted}
use Rattle.bill.proofs.Readings.{read_print}
use Rattle.bill.proofs.Scales.{scale_short}
use Rattle.shifts.specs.Sound.{not_count, some_row, sound_sheet}
use Rattle.shifts.specs.Sum.{no_core, no_process, sum}
use Rattle.shifts.proofs.Fine.{Fine, equal, few_cores, few_names, sound_is}
use Rattle.shifts.proofs.Small.{above, cores_small, charges_small, small}
use Rattle.shifts.proofs.AddedRows.{count_add, named_add, counts_add, above_add}

-- ---- rows with k figures of at most m, which has at most d + 1 digits

module _ (d m : ℕ) (h : m < 10 ^ suc d) where
  figures_short : (fs : List ℕ) → above m fs ≡ false → length (figures_text fs) ≤ length fs * (d + 2)
  unfolding figures_text
  figures_short [] e = omega arith
  figures_short (x ∷ fs) e =
      let q : x < 10 ^ suc d = omega (arith, ltb-false m x (or_l (ltb m x) (above m fs) e)) in
      omega (arith, figures_short fs (or_r (ltb m x) (above m fs) e), digits_at_most d x q, length-append (digits_of x) (figures_text fs))

  -- and a name of at most 64 bytes
  rows_short : (k : ℕ) (rs : List Row) → all_named rs ≡ true → some_row (not_count k) rs ≡ false → some_row (above m) rs ≡ false → length (rows_text rs) ≤ length rs * (65 + k * (d + 2))
  unfolding rows_text
  rows_short k [] n c a = omega arith
  rows_short k (r ∷ rs) n c a =
      let l = equal (length r.figures) k (or_l (not_count k r.figures) (some_row (not_count k) rs) c) in
      let f : length (figures_text r.figures) ≤ k * (d + 2) = rw l at (figures_short r.figures (or_l (above m r.figures) (some_row (above m) rs) a)) in
      let ih =
      rows_short k rs (and_r (is_name r.name) (all_named rs) n) (or_r (not_count k r.figures) (some_row (not_count k) rs) c) (or_r (above m r.figures) (some_row (above m) rs) a) in
      omega (arith, name_length r.name (and_l (is_name r.name) (all_named rs) n), length_row r, length-append (row_text r) (rows_text rs))

-- ---- the rows of a sum, whether or not it is refused: at most 128 cores and 512 processes, with figures of at most 2^63, which has 19 digits

module _ (a b : Bill) (f : Fine a) (g : Fine b) where
  pub core_rows_most : length (rows_text (sum a b).sheet.cores) ≤ 16384
  unfolding sum
  core_rows_most =
      let cs = a.sheet.cores in
      let ds = b.sheet.cores in
      let named = named_add (no_core a) (no_core b) cs ds f.core_names g.core_names in
      let counts = counts_add (no_core a) (no_core b) cs ds 3 refl refl f.core_counts g.core_counts in
      let figures = above_add (no_core a) (no_core b) cs ds (2 ^ 62) (2 ^ 62) (missing a f.short) (missing b g.short) (small a f).0 (small b g).0 in
      omega (
        arith,
        rows_short 18 (2 ^ 62 + 2 ^ 62) (omega arith) 3 (sum a b).sheet.cores named counts figures,
        count_add (no_core a) (no_core b) cs ds,
        few_cores cs a.sheet.processes f.few,
        few_cores ds b.sheet.processes g.few,
      )
    where
      missing : (b : Bill) → b.sheet.span ≤ max_time → above (2 ^ 62) (no_core b) ≡ false
      missing b h = rw (le-ltb (2 ^ 62) b.sheet.span (omega arith))

  pub process_rows_most : length (rows_text (sum a b).sheet.processes) ≤ 44032
  unfolding sum
  process_rows_most =
      let ps = a.sheet.processes in
      let qs = b.sheet.processes in
      let named = named_add no_process no_process ps qs f.process_names g.process_names in
      let counts = counts_add no_process no_process ps qs 1 refl refl f.process_counts g.process_counts in
      let figures = above_add no_process no_process ps qs (2 ^ 62) (2 ^ 62) refl refl (small a f).1 (small b g).1 in
      omega (
        arith,
        rows_short 18 (2 ^ 62 + 2 ^ 62) (omega arith) 1 (sum a b).sheet.processes named counts figures,
        count_add no_process no_process ps qs,
        few_names a.sheet.cores ps f.few,
        few_names b.sheet.cores qs g.few,
      )

-- ---- a sound bill: a core's figures are at most the span, of 17 digits, and a charge is at most all held ticks, which have 19

pub bill_longest : (b : Bill) → Fine b → length (bill_text b) ≤ 24008
unfolding bill_text sheet_text
bill_longest b f =
    let cs = b.sheet.cores in
    let ps = b.sheet.processes in
    let most = few_cores cs ps f.few in
    let all = few_names cs ps f.few in
    simp (length-append, length_accepted, length_section)
    (omega (
      arith,
      scale_short b.scale,
      digits_at_most 16 b.sheet.span (omega (arith, f.short)),
      digits_at_most 1 (length cs) (omega arith),
      digits_at_most 2 (length ps) (omega arith),
      rows_short 16 max_time (omega arith) 3 cs f.core_names f.core_counts (cores_small b f max_time f.short),
      rows_short 18 (core_limit * max_time) (omega arith) 1 ps f.process_names f.process_counts (charges_small b f (core_limit * max_time) (omega arith)),
    ))

-- of a text that shows it
pub sound_longest : (t : List ℕ) (b : Bill) → sound_sheet t ≡ Some b → length t ≤ 24008
sound_longest t b e = let w = sound_is t b e in rw (read_print t b w.0).text (bill_longest b w.1)
