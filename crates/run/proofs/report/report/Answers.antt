-- `run::report::report` meets its contract: what the one question answers is printed.
use Rattle.std.proofs.Common.{refl, ◌∙◌, arith}
use Rattle.run.proofs.Reports.{report_refused, report_told}
use Rattle.run.proofs.report.report.Goals as goal

pub returns-in-15 : goal.returns-in-15
returns-in-15 c = report_refused _ _ _ _ refl c.outcome_now-o.ensures _ c.in-15.is (omega arith)

pub returns-in-16 : goal.returns-in-16
returns-in-16 c = report_refused _ _ _ _ refl c.outcome_now-o.ensures _ c.in-16.is (omega arith)

pub returns-in_default : goal.returns-in_default
returns-in_default c = c.put_outcome.ensures ∙ report_told _ _ _ _ refl c.outcome_now-o.ensures _ (λ e. omega arith) (λ e. omega arith)
