-- DEMAND 3, over the lines taken from a fresh start: the three figures of each core add up to the last event time less the first; all charges add up to all
-- held ticks; each figure is the sum over the gaps that the history gives it; and each name stands once. `sheet_of ls` is the sheet of the events of the lines
-- taken of ls, by the definitions of `rules` alone. That its text is what is written, beside the verdict on these lines, is `one_answer` (proofs/OneAnswer).
use mathlib.Core.Path.{◌≡◌, sym, ◌∙◌}
use mathlib.Core.List.{List, []}
use Prim.Native.Nat.{ℕ}
use Rattle.text.specs.Bytes.{same_bytes}
use Rattle.text.specs.Lists.{sum_over}
use Rattle.text.proofs.Words.{same_eq, same_refl}
use Rattle.rules.specs.History.{names, cores, processes}
use Rattle.rules.specs.Sheet.{span, sheet}
use Rattle.rules.specs.Lines.{events_of}
use Rattle.rules.specs.Trace.{taken_lines}
use Rattle.rules.proofs.Sums.{Once}
use Rattle.rules.proofs.Tracked.{names_once}
use Rattle.rules.proofs.Traces.{taken_sound}
use Rattle.sheet.specs.Sheet.{sheet_in}
use Rattle.promises.specs.Sheets.{sheet_of, figure, Balanced}
use Rattle.promises.proofs.Events.{all_met}
use Rattle.promises.proofs.Judged.{after_lines, shows_taken}
use Rattle.promises.proofs.ShownRows.{sheet_shown}
use Rattle.promises.proofs.Balances.{rows_balanced, sum_held, sum_charges}

-- 1: the three figures of each core add up to the span
pub cores_balanced : (ls : List (List ℕ)) → Balanced (sheet_of ls).span (sheet_of ls).cores
unfolding sheet
cores_balanced ls = let h = events_of (taken_lines [] ls) in rows_balanced h (span h) (taken_sound ls).laws.each_core (cores h)

-- 2: all charges add up to all held ticks
pub charges_balanced : (ls : List (List ℕ)) → sum_over (figure 0) (sheet_of ls).processes ≡ sum_over (figure 0) (sheet_of ls).cores
unfolding sheet
charges_balanced ls =
    let h = events_of (taken_lines [] ls) in
    sum_charges h (processes h) ∙ (taken_sound ls).laws.all_charges ∙ sym (sum_held h (cores h))

-- 3: each figure is the sum over the gaps that the history gives it
pub figures_right : (ls : List (List ℕ)) → let t = after_lines ls in sheet_in t.names t.nums t.ticks ≡ sheet_of ls
figures_right ls =
    let h = taken_lines [] ls in
    sheet_shown (events_of h) (taken_sound ls).kept.accepted (all_met h) (after_lines ls) (shows_taken ls).shows.events

-- and each name stands once
pub named_once : (ls : List (List ℕ)) → Once same_bytes same_eq same_refl (names (events_of (taken_lines [] ls)))
named_once ls = names_once (events_of (taken_lines [] ls))
