-- What is printed of an accepted trace is the print of its bill (`printed_bill`), and may always be added (`printed_sound`): 21 is never said of it.
use Rattle.std.proofs.Common.{Some}
use mathlib.Core.Path.{◌≡◌, refl, sym, ◌∙◌}
use mathlib.Core.Bool.{Bool, true, false}
use mathlib.Core.List.{List, [], reverse}
use Prim.Native.Nat.{ℕ, ◌+◌, ◌≤◌}
use native.Mathlib.Omega.{arith}
use lib.Dec.{eqb}
use lib.ListN.{length}
use borrow.Author.Tests.{le-ltb}
use Rattle.text.specs.Name.{is_name}
use Rattle.text.specs.Sizes.{name_limit, core_limit}
use Rattle.bill.specs.Reading.{bill_text}
use Rattle.sorting.specs.Order.{Name}
use Rattle.sorting.specs.Sets.{has}
use Rattle.shifts.specs.Sound.{not_count, not_total, too_many, sound_sheet}
use Rattle.shifts.proofs.Fine.{Fine, no_other, fine_printed}
use Rattle.shifts.proofs.AddedRows.{rows_pass}
use Rattle.rules.specs.Words.{core}
use Rattle.rules.specs.Charts.{is_process}
use Rattle.rules.specs.Event.{Event}
use Rattle.rules.specs.History.{cores, processes}
use Rattle.rules.specs.Sheet.{core_rows, process_rows, span, sheet}
use Rattle.rules.specs.Text.{trace_text}
use Rattle.rules.specs.Trace.{place_of, taken_lines, verdict_on}
use Rattle.rules.proofs.Traces.{Names, at_line, at_end_lem, verdict_names_first, number_sound, taken_sound}
use Rattle.promises.specs.Shifts.{history_of, bill_of, core_figures, process_figures}
use Rattle.promises.proofs.Listed.{named_well}
use Rattle.promises.proofs.Bounds.{span_most}
use Rattle.promises.proofs.Events.{all_met}
use Rattle.promises.proofs.Limits.{scale_small}
use Rattle.promises.proofs.Demand3.{charges_balanced}
use Rattle.promises.proofs.SheetNames.{of_kind, listed_once, listed_apart, listed_most, listed_named}
use Rattle.promises.proofs.SheetRows.{core_rows_lem, process_rows_lem, rows_count, core_names, process_names, rows_named, first_figures}

module _ (ls : List (List ℕ)) (accepted : (verdict_on [] ls).0 ≡ 0) where
  abbrev h : List Event
  h = history_of ls

  pub printed_bill : trace_text ls ≡ bill_text (bill_of ls)
  unfolding trace_text bill_text sheet
  printed_bill = rw accepted

  -- each line is taken
  all_taken : Names ls (verdict_on [] ls) (taken_lines [] ls) → taken_lines [] ls ≡ reverse ls
  all_taken (at_line r why) = absurd (omega (arith, r.refused))
  all_taken (at_end_lem q v) = q

  scaled : 1 ≤ (place_of (taken_lines [] ls)).scale
  scaled =
      let w : (place_of (taken_lines [] ls)).scale ≡ 0 → ⊥ = rw (all_taken (verdict_names_first ls)) ((number_sound ls).0 accepted).scaled in
      omega arith

  well_named : (k : ℕ → Bool) (n : Name) → has n (of_kind k h) ≡ true → is_name n ≡ true
  well_named k n q = named_well h (all_met (taken_lines [] ls)) n (listed_named h k n q)

  few : too_many (core_rows (cores h) h) (process_rows (processes h) h) ≡ false
  unfolding too_many
  few =
      let room = (taken_sound ls).laws.room in
      rw (
        core_rows_lem h (cores h),
        process_rows_lem h (processes h),
        rows_count (core_figures h) (cores h),
        rows_count (process_figures h) (processes h),
        le-ltb core_limit (length (cores h)) room.cores_fit,
        le-ltb name_limit (length (cores h) + length (processes h)) (omega (arith, listed_most h, room.names_fit)),
      )

  fine : Fine (bill_of ls)
  unfolding sheet
  fine = record {
    low = scaled;
    high = scale_small (taken_lines [] ls);
    short = span_most h (all_met (taken_lines [] ls));
    core_names = rw (core_rows_lem h (cores h)) (rows_named (core_figures h) (cores h) (well_named (eqb core)));
    process_names = rw (process_rows_lem h (processes h)) (rows_named (process_figures h) (processes h) (well_named is_process));
    core_counts = rw (core_rows_lem h (cores h)) (rows_pass (not_count 3) (core_figures h) (cores h) (λ c. refl));
    process_counts = rw (process_rows_lem h (processes h)) (rows_pass (not_count 1) (process_figures h) (processes h) (λ p. refl));
    cores_once = rw (core_names h (cores h)) (listed_once h (eqb core));
    processes_once = rw (process_names h (processes h)) (listed_once h is_process);
    apart = rw (core_names h (cores h), process_names h (processes h)) (listed_apart h);
    few = few;
    spans =
        rw (core_rows_lem h (cores h))
        (rows_pass (not_total (span h)) (core_figures h) (cores h) (λ c. no_other _ (span h) (omega (arith, (taken_sound ls).laws.each_core c))));
    charges = first_figures (core_rows (cores h) h) ∙ sym (charges_balanced ls) ∙ sym (first_figures (process_rows (processes h) h));
  }

  pub printed_sound : sound_sheet (trace_text ls) ≡ Some (bill_of ls)
  printed_sound = rw printed_bill (fine_printed (bill_of ls) fine)
