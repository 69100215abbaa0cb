-- TWO SHIFTS. 02, No. 2: what is printed of two accepted traces may be added, and each figure of the sum is the sum of the two that demand 3 gives: over the
-- gaps between neighbouring event lines of the one trace and of the other.
use mathlib.Core.Path.{◌≡◌, refl, sym, ap, ap₂, ◌∙◌}
use mathlib.Core.Bool.{false}
use mathlib.Core.List.{List, [], ◌∷◌, ◌++◌}
use Prim.Native.Nat.{ℕ, ◌+◌}
use lib.Dec.{eqb}
use Rattle.sorting.specs.Order.{Name}
use Rattle.sorting.specs.Sets.{has, sorted}
use Rattle.shifts.specs.Sound.{names}
use Rattle.shifts.specs.Sum.{plus, figures_of, no_core, no_process, sum, refusal, total_by, add_texts}
use Rattle.shifts.proofs.Rows.{names_add, figures_rows, figures_add}
use Rattle.rules.specs.Words.{core}
use Rattle.rules.specs.Charts.{is_process}
use Rattle.rules.specs.Event.{Event}
use Rattle.rules.specs.History.{cores, processes}
use Rattle.rules.specs.Sheet.{held_ticks, idle_ticks, unknown_ticks, charge, span, sheet}
use Rattle.rules.specs.Text.{trace_text}
use Rattle.rules.specs.Trace.{verdict_on}
use Rattle.rules.proofs.Traces.{taken_sound}
use Rattle.promises.specs.Shifts.{history_of, bill_of, both_of, core_figures, process_figures}
use Rattle.promises.proofs.SheetNames.{listed}
use Rattle.promises.proofs.Unlisted.{no_core_lem, no_process_lem}
use Rattle.promises.proofs.SheetRows.{core_rows_lem, process_rows_lem, core_names, process_names}
use Rattle.promises.proofs.PrintedBills.{printed_sound}

-- ---- one trace: the figures of a name in its bill are demand 3's, listed or not

module _ (ls : List (List ℕ)) where
  abbrev h : List Event
  h = history_of ls

  -- a name that is no core there has nothing but the span, as unknown: what a sheet without it is taken to say
  pub missing_core : (n : Name) → has n (cores h) ≡ false → core_figures h n ≡ 0 ∷ 0 ∷ span h ∷ []
  missing_core n q = no_core_lem n h (taken_sound ls).kept.accepted (sym (listed h (eqb core) n) ∙ q)

  -- one that is no process has no charge
  pub missing_process : (n : Name) → has n (processes h) ≡ false → charge n h ≡ 0
  missing_process n q = no_process_lem n h (taken_sound ls).kept.accepted (sym (listed h is_process n) ∙ q)

  core_figures_lem : (n : Name) → figures_of (no_core (bill_of ls)) (bill_of ls).sheet.cores n ≡ core_figures h n
  unfolding sheet
  core_figures_lem n =
      rw (core_rows_lem h (cores h)) (figures_rows (no_core (bill_of ls)) (core_figures h) (cores h) n (λ q. sym (missing_core n q)))

  process_figures_lem : (n : Name) → figures_of no_process (bill_of ls).sheet.processes n ≡ process_figures h n
  unfolding sheet
  process_figures_lem n =
      rw (process_rows_lem h (processes h)) (figures_rows no_process (process_figures h) (processes h) n (λ q. ap (λ (m : ℕ). m ∷ []) (sym (missing_process n q))))

-- ---- two

pub record AddedUp (ls ms : List (List ℕ)) : Type 0 where
  -- what adding the two prints comes to: the print of the sum, or one of 22 to 25
  pub answer : add_texts (trace_text ls) (trace_text ms) ≡ total_by (refusal (bill_of ls) (bill_of ms)) (both_of ls ms)
  -- the sum's span
  pub span_sum : (both_of ls ms).sheet.span ≡ span (history_of ls) + span (history_of ms)
  -- its names: those of both traces, in order, each once
  pub cores_listed : names (both_of ls ms).sheet.cores ≡ sorted (cores (history_of ls) ++ cores (history_of ms))
  pub processes_listed : names (both_of ls ms).sheet.processes ≡ sorted (processes (history_of ls) ++ processes (history_of ms))
  -- the figures of each core: held, idle, unknown; a trace in which it is none has its span as unknown (`missing_core`)
  pub core_sums : (n : Name) → figures_of (no_core (both_of ls ms)) (both_of ls ms).sheet.cores n
      ≡ (held_ticks n (history_of ls) + held_ticks n (history_of ms))
      ∷ (idle_ticks n (history_of ls) + idle_ticks n (history_of ms))
      ∷ (unknown_ticks n (history_of ls) + unknown_ticks n (history_of ms)) ∷ []
  -- the charge of each process; a trace in which it is none has none (`missing_process`)
  pub charge_sums : (n : Name) → figures_of no_process (both_of ls ms).sheet.processes n ≡ (charge n (history_of ls) + charge n (history_of ms)) ∷ []

pub two_shifts : (ls ms : List (List ℕ)) → (verdict_on [] ls).0 ≡ 0 → (verdict_on [] ms).0 ≡ 0 → AddedUp ls ms
unfolding add_texts sum sheet
two_shifts ls ms p q =
    let a = bill_of ls in
    let b = bill_of ms in
    let h = history_of ls in
    let g = history_of ms in
    record {
      answer = rw (printed_sound ls p, printed_sound ms q);
      span_sum = refl;
      cores_listed = names_add (no_core a) (no_core b) a.sheet.cores b.sheet.cores ∙ rw (core_names h (cores h), core_names g (cores g));
      processes_listed = names_add no_process no_process a.sheet.processes b.sheet.processes ∙ rw (process_names h (processes h), process_names g (processes g));
      core_sums =
          λ n. figures_add (no_core a) (no_core b) a.sheet.cores b.sheet.cores n ∙ ap₂ plus (core_figures_lem ls n) (core_figures_lem ms n);
      charge_sums =
          λ n. figures_add no_process no_process a.sheet.processes b.sheet.processes n ∙ ap₂ plus (process_figures_lem ls n) (process_figures_lem ms n);
    }
