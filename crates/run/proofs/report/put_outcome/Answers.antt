-- `run::report::put_outcome` meets its contract: where both fit, the verdict's line is put and then the sheet, and otherwise nothing.
use Rattle.std.proofs.Common.{sym, ◌∙◌, leb-true, leb-false}
use Rattle.run.proofs.Reports.{outcome_full, outcome_done}
use Rattle.run.proofs.report.put_outcome.Goals as goal

pub returns-then-not-room : goal.returns-then-not-room
returns-then-not-room c =
    let s = c.sheet_printed-m in
    outcome_full _ _ c.verdict_length-n.ensures s.ensures.0 s.ensures.1 c.args.out.now (leb-false _ _ (sym c.room.ensures ∙ c.if-not-room.true))

pub returns : goal.returns
returns c =
    let s = c.sheet_printed-m in
    outcome_done _ _ c.verdict_length-n.ensures s.ensures.0 s.ensures.1 c.args.out.now (leb-true _ _ (sym c.room.ensures ∙ c.if-not-room.false))
    c.put_verdict-next.ensures
    c.put_bytes-end.ensures
