-- `outcome::tested::Tested::outcome` meets its contract: a sheet that does not fit leaves the output as it was; else the sheet is put, and the verdict is that of the same tables.
use Rattle.outcome.proofs.Outcomes.{too_short, answered}
use Rattle.outcome.proofs.tested.Tested.outcome.Goals as goal

pub returns-then-out-length : goal.returns-then-out-length
returns-then-out-length c = too_short _ _ c.args.self.in_range (rw c.sheet_length-length.ensures at c.if-out-length.true) c.refused.ensures

pub returns : goal.returns
returns c =
    answered _ _ c.args.self.in_range (rw c.sheet_length-length.ensures at c.if-out-length.false) c.verdict_in-verdict.ensures c.sheet_length-length.ensures c.put_sheet.ensures
