-- What is printed after lines from a fresh start is the text of the list of lines alone, and no such text is longer than `text_most`.
use mathlib.Core.Path.{◌≡◌, refl, ◌∙◌}
use mathlib.Core.Bool.{Bool, true, false, cond}
use mathlib.Core.List.{List, [], ◌++◌, append-nil}
use Prim.Native.Nat.{ℕ, ◌≤◌}
use lib.Dec.{eqb}
use lib.ListN.{length}
use Rattle.bill.specs.declared.verdict.Verdict.{Verdict}
use Rattle.bill.specs.Text.{sheet_text}
use Rattle.bill.specs.Verdict.{accepted_text, refused_text, verdict_text, report_text}
use Rattle.rules.specs.Sheet.{sheet}
use Rattle.rules.specs.Text.{trace_text}
use Rattle.ranges.proofs.Valid.{valid}
use Rattle.sheet.specs.Sheet.{sheet_in}
use Rattle.judge.specs.Feed.{Tables}
use Rattle.outcome.specs.AtEnd.{verdict_in}
use Rattle.run.specs.Report.{text_printed, report_written, text_most}
use Rattle.run.proofs.Fits.{report_fits}
use Rattle.promises.proofs.Judged.{after_lines, never_16}
use Rattle.promises.proofs.Demand3.{figures_right}
use Rattle.promises.proofs.Outcomes.{verdict_right}

-- what is printed if the trace ended with these tables
abbrev pub printed : Tables → List ℕ
printed t = report_text (verdict_in t.nums t.ticks) (sheet_text (sheet_in t.names t.nums t.ticks))

-- a verdict, and the text of a sheet
report_text_lem : (v : Verdict) (s : List ℕ) →
    report_text v s ≡ cond (eqb v.number 0) (accepted_text v.scale v.span ++ s) (refused_text v.number v.line)
unfolding report_text verdict_text
report_text_lem v s = by_number (eqb v.number 0) _ _ _
  where
    by_number : (b : Bool) (accepted refused sheet : List ℕ) → cond b accepted refused ++ cond b sheet [] ≡ cond b (accepted ++ sheet) refused
    by_number true accepted refused sheet = refl
    by_number false accepted refused sheet = append-nil refused

pub after_text : (ls : List (List ℕ)) → printed (after_lines ls) ≡ trace_text ls
unfolding trace_text sheet
after_text ls = report_text_lem _ _ ∙ rw (verdict_right ls, figures_right ls)

-- and so it is written, where it fits
pub written_text : (ls : List (List ℕ)) (out : List ℕ) →
    let t = after_lines ls in report_written t.names t.nums t.ticks out ≡ text_printed (trace_text ls) out
unfolding report_written
written_text ls out = rw (never_16 ls, after_text ls)

pub text_fits : (ls : List (List ℕ)) → length (trace_text ls) ≤ text_most
text_fits ls = rw (← (after_text ls)) (report_fits (valid _ _ _ (never_16 ls)))
