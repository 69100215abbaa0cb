-- A text whose lines tell a form, whose sums are right and whose names stand once, is a sheet that may be added.
use Rattle.std.proofs.Common.{Some}
use mathlib.Core.Path.{◌≡◌, refl, sym, ap, ◌∙◌}
use mathlib.Core.Bool.{true, false}
use mathlib.Core.List.{List, [], ◌∷◌, map, map-map}
use Prim.Native.Nat.{ℕ, ◌+◌, ◌-◌, ◌^◌}
use native.Mathlib.Omega.{arith}
use lib.Dec.{ltb}
use lib.ListN.{length, get_or, length-map}
use borrow.Author.Tests.{eqb-true, le-ltb, le-leb, ltb-false}
use Rattle.text.specs.Pieces.{pieces}
use Rattle.text.specs.Sizes.{name_limit, core_limit}
use Rattle.text.specs.Lists.{all}
use Rattle.text.proofs.Bools.{and_l, and_r, or_l, or_r}
use Rattle.bill.specs.declared.section.Section.{Section}
use Rattle.bill.specs.declared.section.Section.TheVariants.{Cores, Processes}
use Rattle.bill.specs.Text.{title}
use Rattle.bill.specs.Reading.{rows_in, row_from, from_processes, core_lines, process_lines, bill_from, all_of, form_tests, read_sheet}
use Rattle.bill.proofs.LineReadings.{head_low, head_high}
use Rattle.sorting.specs.Sets.{sorted_by}
use Rattle.sorting.proofs.Keys.{rename_sorted, rising_keys, all_sorted}
use Rattle.shifts.specs.Sound.{names, firsts, not_total, some_row, too_many}
use Rattle.shifts.specs.Sum.{by_name}
use Rattle.shifts.proofs.Fine.{Fine, is_sound_lem}
use Rattle.shifts.proofs.Small.{above, small}
use Rattle.adding.specs.declared.form.Form.{Form}
use Rattle.paper.specs.Lines.{line_from, row_at, name_at}
use Rattle.paper.specs.Rows.{row_of, core_ok}
use Rattle.adding.specs.RowCode.{charges_make, sums_right}
use Rattle.adding.specs.MergeCode.{width, all_small, fine_row, rows_at, InOrder}
use Rattle.adding.specs.FormCode.{core_places, process_places, Formed, Sized}
use Rattle.adding.specs.SheetCode.{Ordered, places_in, Booked}
use Rattle.adding.proofs.SectionPlaces.{core_count_lem, process_count}
use Rattle.adding.proofs.SheetTests.{HeadTold, head_told, CountTold, count_told, rows_tests, cores_tests}

-- ---- the tests of the rows

record SumsTold (span : ℕ) (cs ps : List (List ℕ)) : Type 0 where
  core_rows : all (row_of 3) cs ≡ true
  spans : some_row (not_total span) (map row_from cs) ≡ false
  process_rows : all (row_of 1) ps ≡ true
  charges : firsts (map row_from cs) ≡ firsts (map row_from ps)

sums_told : (span : ℕ) (cs ps : List (List ℕ)) → sums_right span cs ps ≡ true → SumsTold span cs ps
unfolding sums_right charges_make
sums_told span cs ps e =
    let c = cores_tests span cs (and_l (all (core_ok span) cs) _ e) in
    let p = and_r (all (core_ok span) cs) _ e in
    record {
      core_rows = c.0;
      spans = c.1;
      process_rows = and_l (all (row_of 1) ps) _ p;
      charges = sym (eqb-true _ _ (and_r (all (row_of 1) ps) _ p));
    }

-- rows whose figures are small are fine
small_figures : (fs : List ℕ) → above (2 ^ 62) fs ≡ false → all_small fs ≡ true
small_figures [] e = refl
small_figures (x ∷ fs) e = rw (le-leb x (2 ^ 62) (ltb-false (2 ^ 62) x (or_l (ltb (2 ^ 62) x) _ e)), small_figures fs (or_r (ltb (2 ^ 62) x) _ e))

fine_rows : (section : Section) (ls : List (List ℕ)) → all (row_of (width section)) ls ≡ true → some_row (above (2 ^ 62)) (map row_from ls) ≡ false → all (fine_row section) ls ≡ true
unfolding fine_row
fine_rows section [] r e = refl
fine_rows section (l ∷ ls) r e =
    rw (
      and_l (row_of (width section) l) _ r,
      small_figures (row_from l).figures (or_l (above (2 ^ 62) (row_from l).figures) _ e),
      fine_rows section ls (and_r (row_of (width section) l) _ r) (or_r (above (2 ^ 62) (row_from l).figures) _ e),
    )

-- ---- a section in the order of its names

module _ (section : Section) (text ps places : List ℕ) (e : places ≡ sorted_by (name_at text) ps) where
  sorted_rows : rows_at text places ≡ sorted_by by_name (map row_from (map (line_from text) ps))
  sorted_rows = ap (rows_at text) e ∙ rename_sorted (row_at text) by_name ps ∙ ap (sorted_by by_name) (sym (map-map row_from (line_from text) ps))

  in_order : all (fine_row section) (map (line_from text) ps) ≡ true → InOrder section text places
  in_order h = record {
    in_order = rw e (rising_keys (name_at text) ps);
    fine = rw e (all_sorted (name_at text) (fine_row section) (line_from text) ps h);
  }

-- ---- the form

module _ {text starts : List ℕ} {f : Form} (k : Formed text starts f) where
  abbrev ls : List (List ℕ)
  ls = pieces 10 text

  head : HeadTold (get_or ls 0 []) f.scale f.span
  head = head_told (get_or ls 0 []) f.scale f.span k.head

  first : CountTold (title Cores) (get_or ls 1 []) core_limit f.cores
  first = count_told (title Cores) (get_or ls 1 []) core_limit f.cores k.first

  second : CountTold (title Processes) (get_or (from_processes ls) 0 []) (name_limit - f.cores) f.processes
  second = count_told (title Processes) (get_or (from_processes ls) 0 []) (name_limit - f.cores) f.processes k.second

  pub formed_sized : Sized starts f
  formed_sized = record { sized = k.sized; few = first.few; names = omega (arith, first.few, second.few); short = head.short }

  -- ---- the rows and the names

  pub core_names : names (map row_from (core_lines ls)) ≡ map (name_at text) (core_places starts f)
  unfolding names
  core_names = rw (← k.core_lines_told) (simp map-map)

  pub process_names : names (map row_from (process_lines ls)) ≡ map (name_at text) (process_places starts f)
  unfolding names
  process_names = rw (← k.process_lines_told) (simp map-map)

  module _ {cores processes : List ℕ} (s : sums_right f.span (map (line_from text) (core_places starts f)) (map (line_from text) (process_places starts f)) ≡ true)
      (o : Ordered text (core_places starts f) (process_places starts f) cores processes) where
    sums : SumsTold f.span (core_lines ls) (process_lines ls)
    sums = sums_told f.span (core_lines ls) (process_lines ls) (rw (k.core_lines_told, k.process_lines_told) at s)

    core_length : length (map row_from (core_lines ls)) ≡ f.cores
    core_length = length-map (core_lines ls) row_from ∙ ap length (sym k.core_lines_told) ∙ length-map (core_places starts f) (line_from text) ∙ core_count_lem starts f formed_sized

    process_length : length (map row_from (process_lines ls)) ≡ f.processes
    process_length = length-map (process_lines ls) row_from ∙ ap length (sym k.process_lines_told) ∙ length-map (process_places starts f) (line_from text) ∙ process_count starts f formed_sized

    not_many : too_many (map row_from (core_lines ls)) (map row_from (process_lines ls)) ≡ false
    unfolding too_many
    not_many = rw (core_length, process_length, le-ltb core_limit f.cores first.few) (le-ltb name_limit (f.cores + f.processes) formed_sized.names)

    forms : all_of (form_tests ls) ≡ true
    unfolding form_tests
    forms =
        rw (
          head.exact,
          first.exact,
          (rows_tests 3 (core_lines ls) sums.core_rows).0,
          second.exact,
          (rows_tests 1 (process_lines ls) sums.process_rows).0,
          k.end,
        )

    reads : read_sheet text ≡ Some (bill_from ls)
    unfolding read_sheet
    reads = rw forms

    fine : Fine (bill_from ls)
    unfolding bill_from
    fine =
        let c = rows_tests 3 (core_lines ls) sums.core_rows in
        let p = rows_tests 1 (process_lines ls) sums.process_rows in
        record {
          low = head_low (get_or ls 0 []) head.exact;
          high = head_high (get_or ls 0 []) head.exact;
          short = omega (arith, head.span_is, head.short);
          core_names = c.1;
          process_names = p.1;
          core_counts = c.2;
          process_counts = p.2;
          cores_once = rw core_names o.cores_once;
          processes_once = rw process_names o.processes_once;
          apart = rw (core_names, process_names) o.apart;
          few = not_many;
          spans = rw head.span_is sums.spans;
          charges = sums.charges;
        }

    -- ---- the sheet, with the places of its rows

    core_order : places_in Cores f cores processes ≡ sorted_by (name_at text) (core_places starts f)
    core_order = let n : f.cores - 0 ≡ length (core_places starts f) = omega (arith, core_count_lem starts f formed_sized) in rw n o.core_order

    process_order : places_in Processes f cores processes ≡ sorted_by (name_at text) (process_places starts f)
    process_order = let n : f.processes - 0 ≡ length (process_places starts f) = omega (arith, process_count starts f formed_sized) in rw n o.process_order

    sheet_rows : (section : Section) → rows_at text (places_in section f cores processes) ≡ sorted_by by_name (rows_in section (bill_from ls))
    unfolding bill_from
    sheet_rows Cores = rw (← k.core_lines_told) (sorted_rows Cores text (core_places starts f) (places_in Cores f cores processes) core_order)
    sheet_rows Processes = rw (← k.process_lines_told) (sorted_rows Processes text (process_places starts f) (places_in Processes f cores processes) process_order)

    sheet_in_order : (section : Section) → InOrder section text (places_in section f cores processes)
    unfolding bill_from
    sheet_in_order Cores = in_order Cores text (core_places starts f) (places_in Cores f cores processes) core_order (rw k.core_lines_told (fine_rows Cores (core_lines ls) sums.core_rows (small (bill_from ls) fine).0))
    sheet_in_order Processes = in_order Processes text (process_places starts f) (places_in Processes f cores processes) process_order (rw k.process_lines_told (fine_rows Processes (process_lines ls) sums.process_rows (small (bill_from ls) fine).1))

    pub booked : length cores ≡ core_limit → length processes ≡ name_limit → Booked text f cores processes
    unfolding bill_from
    booked h g = record {
      bill = bill_from ls;
      sound = is_sound_lem text (bill_from ls) reads fine;
      scale = sym head.scale_is;
      span = sym head.span_is;
      cores_fit = omega (arith, first.few);
      processes_fit = omega (arith, formed_sized.names);
      rows = sheet_rows;
      in_order = sheet_in_order;
    }
