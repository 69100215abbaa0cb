-- What the code finds in a text that may be added (`Passing`), and that such a text may be added if the code finds it.
use Rattle.std.proofs.Common.{Some, None}
use mathlib.Core.Path.{◌≡◌, refl, sym}
use mathlib.Core.Bool.{Bool, true, false, ◌&&◌}
use mathlib.Core.List.{List, [], ◌∷◌, map}
use Prim.Native.Nat.{ℕ, ◌+◌, ◌-◌, ◌≤◌}
use native.Mathlib.Omega.{arith}
use lib.Dec.{eqb, leb}
use lib.ListN.{length, get_or}
use borrow.Author.Tests.{eq-eqb, leb-true, le-leb, not-false}
use Rattle.text.specs.Name.{is_name}
use Rattle.text.specs.Pieces.{pieces, ended, unended}
use Rattle.text.specs.Sizes.{max_time, name_limit, core_limit}
use Rattle.text.specs.Lists.{all}
use Rattle.text.proofs.Bools.{and_l, and_r, or_l, or_r}
use Rattle.text.proofs.Pairs.{same_parts}
use Rattle.bill.specs.declared.section.Section.TheVariants.{Cores, Processes}
use Rattle.bill.specs.Rows.{all_named}
use Rattle.bill.specs.Text.{title}
use Rattle.bill.specs.Reading.{Bill, scale_in, span_in, head_exact, count_in, count_exact, word_of, row_from, row_exact, rows_exact, core_count, from_processes, process_count, core_lines, process_lines, bill_from, all_of, form_tests, read_sheet}
use Rattle.bill.proofs.Formed.{all_pass}
use Rattle.bill.proofs.Readings.{read_print, read_lengths}
use Rattle.sorting.specs.Sets.{meets, twice}
use Rattle.shifts.specs.Sound.{names, firsts, total, not_count, not_total, some_row, sound_sheet}
use Rattle.shifts.specs.Sizes.{sheet_most}
use Rattle.shifts.proofs.Fine.{Fine, few_cores, few_names, unsound_is}
use Rattle.shifts.proofs.Sizes.{bill_longest}
use Rattle.paper.specs.Heads.{head_if, head_of, count_of}
use Rattle.paper.specs.Rows.{row_of, core_ok}
use Rattle.adding.specs.RowCode.{charges_make, sums_right}
use Rattle.paper.proofs.Numbers.{value_if}

-- ---- the rows of a section, by the tests of the sheet and by those of each line

module _ (k : ℕ) where
  rows_pass : (ls : List (List ℕ)) → rows_exact ls ≡ true → all_named (map row_from ls) ≡ true → some_row (not_count k) (map row_from ls) ≡ false → all (row_of k) ls ≡ true
  unfolding row_of row_from
  rows_pass [] e n c = refl
  rows_pass (l ∷ ls) e n c =
      rw (
        and_l (is_name (word_of l 0)) _ n,
        not-false (eqb (length (row_from l).figures) k) (or_l (not_count k (row_from l).figures) _ c),
        and_l (row_exact l) _ e,
        rows_pass ls (and_r (row_exact l) _ e) (and_r (is_name (word_of l 0)) _ n) (or_r (not_count k (row_from l).figures) _ c),
      )

  pub rows_tests : (ls : List (List ℕ)) → all (row_of k) ls ≡ true → (rows_exact ls ≡ true) × (all_named (map row_from ls) ≡ true) × (some_row (not_count k) (map row_from ls) ≡ false)
  unfolding row_of row_from
  rows_tests [] e = (refl, refl, refl)
  rows_tests (l ∷ ls) e =
      let r = and_l (row_of k l) (all (row_of k) ls) e in
      let s = and_r (is_name (word_of l 0)) _ r in
      let n = and_l (is_name (word_of l 0)) _ r in
      let c = and_l (eqb (length (row_from l).figures) k) (row_exact l) s in
      let x = and_r (eqb (length (row_from l).figures) k) (row_exact l) s in
      let ih = rows_tests ls (and_r (row_of k l) (all (row_of k) ls) e) in
      (rw (x, ih.0), rw (n, ih.1), rw (c, ih.2))

module _ (span : ℕ) where
  cores_pass : (ls : List (List ℕ)) → all (row_of 3) ls ≡ true → some_row (not_total span) (map row_from ls) ≡ false → all (core_ok span) ls ≡ true
  unfolding core_ok
  cores_pass [] e t = refl
  cores_pass (l ∷ ls) e t =
      rw (
        and_l (row_of 3 l) _ e,
        not-false (eqb (total (row_from l).figures) span) (or_l (not_total span (row_from l).figures) _ t),
        cores_pass ls (and_r (row_of 3 l) _ e) (or_r (not_total span (row_from l).figures) _ t),
      )

  pub cores_tests : (ls : List (List ℕ)) → all (core_ok span) ls ≡ true → (all (row_of 3) ls ≡ true) × (some_row (not_total span) (map row_from ls) ≡ false)
  unfolding core_ok
  cores_tests [] e = (refl, refl)
  cores_tests (l ∷ ls) e =
      let r = and_l (core_ok span l) (all (core_ok span) ls) e in
      let ih = cores_tests ls (and_r (core_ok span l) (all (core_ok span) ls) e) in
      (rw (and_l (row_of 3 l) _ r, ih.0), rw (and_r (row_of 3 l) _ r, ih.1))

-- ---- the lines that are no rows, told

pub record HeadTold (line : List ℕ) (scale span : ℕ) : Type 0 where
  pub exact : head_exact line ≡ true
  pub scale_is : scale_in line ≡ scale
  pub span_is : span_in line ≡ span
  pub short : span ≤ max_time

head_if_lem : (t u : Bool) (s n scale span : ℕ) → leb n max_time ≡ u → head_if (t && u) s n ≡ Some (scale, span) → (t ≡ true) × (s ≡ scale) × (n ≡ span) × (n ≤ max_time)
head_if_lem true true s n scale span h e = let w = same_parts e in (refl, w.0, w.1, leb-true n max_time h)
head_if_lem true false s n scale span h e = (cc, cc, cc, absurd (let z : ◌≡◌ {A = ℕ} 0 1 = cc in omega arith))
head_if_lem false u s n scale span h e = (cc, cc, cc, absurd (let z : ◌≡◌ {A = ℕ} 0 1 = cc in omega arith))

pub head_told : (line : List ℕ) (scale span : ℕ) → head_of line ≡ Some (scale, span) → HeadTold line scale span
unfolding head_of
head_told line scale span e =
    let w = head_if_lem (head_exact line) (leb (span_in line) max_time) (scale_in line) (span_in line) scale span refl e in
    record { exact = w.0; scale_is = w.1; span_is = w.2; short = omega (arith, w.2, w.3) }

head_tells : (line : List ℕ) → head_exact line ≡ true → span_in line ≤ max_time → head_of line ≡ Some (scale_in line, span_in line)
unfolding head_of
head_tells line e h = rw (e, le-leb (span_in line) max_time h)

pub record CountTold (head line : List ℕ) (max n : ℕ) : Type 0 where
  pub exact : count_exact head line ≡ true
  pub count_is : count_in head line ≡ n
  pub few : n ≤ max

pub count_told : (head line : List ℕ) (max n : ℕ) → count_of head line max ≡ Some n → CountTold head line max n
unfolding count_of
count_told head line max n e =
    let w = value_if (count_exact head line) (count_in head line) max n e in
    record { exact = w.0; count_is = w.1; few = omega (arith, w.1, w.2) }

count_tells : (head line : List ℕ) (max : ℕ) → count_exact head line ≡ true → count_in head line ≤ max → count_of head line max ≡ Some (count_in head line)
unfolding count_of
count_tells head line max e h = rw (e, le-leb (count_in head line) max h)

-- ---- a text that may be added

abbrev head_in : List ℕ → List ℕ
head_in text = get_or (pieces 10 text) 0 []

pub record Passing (text : List ℕ) : Type 0 where
  pub rest : unended (pieces 10 text) ≡ []
  pub whole : length (ended (pieces 10 text)) ≡ 3 + core_count (pieces 10 text) + process_count (pieces 10 text)
  pub few : core_count (pieces 10 text) + process_count (pieces 10 text) ≤ name_limit
  pub head : head_of (get_or (pieces 10 text) 0 []) ≡ Some (scale_in (head_in text), span_in (head_in text))
  pub first : count_of (title Cores) (get_or (pieces 10 text) 1 []) core_limit ≡ Some (core_count (pieces 10 text))
  pub second : count_of (title Processes) (get_or (from_processes (pieces 10 text)) 0 []) (name_limit - core_count (pieces 10 text)) ≡ Some (process_count (pieces 10 text))
  pub sums : sums_right (span_in (head_in text)) (core_lines (pieces 10 text)) (process_lines (pieces 10 text)) ≡ true
  pub cores_once : twice (names (map row_from (core_lines (pieces 10 text)))) ≡ false
  pub processes_once : twice (names (map row_from (process_lines (pieces 10 text)))) ≡ false
  pub apart : meets (names (map row_from (core_lines (pieces 10 text)))) (names (map row_from (process_lines (pieces 10 text)))) ≡ false
  pub long : length text ≤ sheet_most

-- the rows of a bill that is fine pass the tests of each line
sums_pass : (span : ℕ) (cs ps : List (List ℕ)) → all (row_of 3) cs ≡ true → some_row (not_total span) (map row_from cs) ≡ false → all (row_of 1) ps ≡ true
    → firsts (map row_from cs) ≡ firsts (map row_from ps) → sums_right span cs ps ≡ true
unfolding sums_right charges_make
sums_pass span cs ps c t p e = rw (cores_pass span cs c t, p) (eq-eqb _ _ (sym e))

module _ (text : List ℕ) (forms : all_of (form_tests (pieces 10 text)) ≡ true) (f : Fine (bill_from (pieces 10 text))) where
  sums_of_fine : sums_right (span_in (head_in text)) (core_lines (pieces 10 text)) (process_lines (pieces 10 text)) ≡ true
  unfolding form_tests bill_from
  sums_of_fine =
      let ls = pieces 10 text in
      let v = all_pass (form_tests ls) forms in
      sums_pass (span_in (head_in text)) (core_lines ls) (process_lines ls)
      (rows_pass 3 (core_lines ls) v.1.1.0 f.core_names f.core_counts)
      f.spans
      (rows_pass 1 (process_lines ls) v.1.1.1.1.0 f.process_names f.process_counts)
      f.charges

passing : (text : List ℕ) (b : Bill) → read_sheet text ≡ Some b → Fine b → Passing text
unfolding form_tests bill_from
passing text b r f =
    let ls = pieces 10 text in
    let s = read_print text b r in
    let n = read_lengths text b r in
    let v = all_pass (form_tests ls) s.forms in
    let g : Fine (bill_from ls) = rw s.from at f in
    record {
      rest = n.rest;
      whole = n.whole;
      few = omega (arith, n.cores, n.processes, few_names b.sheet.cores b.sheet.processes f.few);
      head = head_tells (head_in text) v.0 g.short;
      first = count_tells (title Cores) (get_or ls 1 []) core_limit v.1.0 (omega (arith, n.cores, few_cores b.sheet.cores b.sheet.processes f.few));
      second = count_tells (title Processes) (get_or (from_processes ls) 0 []) (name_limit - core_count ls) v.1.1.1.0
          (omega (arith, n.cores, n.processes, few_names b.sheet.cores b.sheet.processes f.few));
      sums = sums_of_fine text s.forms g;
      cores_once = g.cores_once;
      processes_once = g.processes_once;
      apart = g.apart;
      long = rw s.text (bill_longest b f);
    }

pub not_passing : (text : List ℕ) → (Passing text → ⊥) → sound_sheet text ≡ None
not_passing text h = (unsound_is text).1 (λ b r f. h (passing text b r f))
