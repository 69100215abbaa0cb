-- DEMANDS 2 AND 3 IN ONE ANSWER. Whatever lines were fed from a fresh start, the question answers with the verdict on them and the sheet of those that were taken: one
-- list of lines, from which both follow, and no second state. So it is for a whole trace.
use mathlib.Core.Path.{◌≡◌, refl}
use mathlib.Core.Logic.{◌↔◌}
use mathlib.Core.Bool.{true}
use mathlib.Core.List.{List, [], reverse}
use Prim.Native.Nat.{ℕ, ◌≤◌}
use lib.ListN.{length}
use Rattle.text.specs.Put.{written}
use Rattle.text.specs.Lists.{sum_over}
use Rattle.walk.specs.Lines.{lines_of}
use Rattle.bill.specs.Text.{sheet_text}
use Rattle.rules.specs.Trace.{place_of, taken_lines}
use Rattle.rules.specs.Lawful.{Lawful}
use Rattle.tables.specs.Sized.{is_sized}
use Rattle.judge.specs.Feed.{Tables}
use Rattle.outcome.specs.Outcome.{Asked, asked, outcome_in, trace_outcome}
use Rattle.promises.specs.Sheets.{sheet_of, figure, Balanced}
use Rattle.promises.specs.Outcomes.{verdict_of}
use Rattle.promises.proofs.Judged.{after_lines}
use Rattle.promises.proofs.Demand3.{cores_balanced, charges_balanced}
use Rattle.promises.proofs.Outcomes.{answered, trace_outcome_lem}
use Rattle.promises.proofs.Demand2.{Refusal, lawful_exactly, refused_first}

-- an answer that is of the lines ls, asked for with the output out
pub record OfOneList (ls : List (List ℕ)) (out : List ℕ) (x : Asked) : Type 0 where
  -- demand 2: 0 exactly if these lines are lawful, or the first of them that is not
  pub accepted : (x.outcome.verdict.number ≡ 0) ↔ Lawful (reverse ls)
  pub refused : (x.outcome.verdict.number ≡ 0 → ⊥) → Refusal ls x.outcome.verdict.number x.outcome.verdict.line
  pub scale : x.outcome.verdict.scale ≡ (place_of (taken_lines [] ls)).scale
  -- demand 3: the sheet of these lines, each figure by the history, at the front of the output and the rest of it as it was
  pub size : x.outcome.length ≡ length (sheet_text (sheet_of ls))
  pub sheet : x.output ≡ written out 0 (sheet_text (sheet_of ls))
  -- .. which adds up, to the span that stands beside the verdict
  pub cores : Balanced x.outcome.verdict.span (sheet_of ls).cores
  pub charges : sum_over (figure 0) (sheet_of ls).processes ≡ sum_over (figure 0) (sheet_of ls).cores

module _ (ls : List (List ℕ)) (out : List ℕ) where
  of_lines : let text = sheet_text (sheet_of ls) in OfOneList ls out (asked (record { verdict = verdict_of ls; length = length text }) (written out 0 text))
  of_lines = record {
    accepted = lawful_exactly ls;
    refused = refused_first ls;
    scale = refl;
    size = refl;
    sheet = refl;
    cores = cores_balanced ls;
    charges = charges_balanced ls;
  }

  pub one_answer : length (sheet_text (sheet_of ls)) ≤ length out → OfOneList ls out (outcome_in (after_lines ls) out)
  one_answer room = rw (answered ls out room) of_lines

pub trace_answer : (t : Tables) → is_sized (length t.names) (length t.nums) (length t.ticks) ≡ true → (trace out : List ℕ) →
    length (sheet_text (sheet_of (lines_of trace))) ≤ length out → OfOneList (lines_of trace) out (trace_outcome t trace out).told
trace_answer t fits trace out room = rw (trace_outcome_lem t trace fits out) (one_answer (lines_of trace) out room)
