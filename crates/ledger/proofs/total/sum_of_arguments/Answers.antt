-- An output too short comes first, then too few sheets, and else they are added.
use Rattle.ledger.proofs.Answers.{answered}
use Rattle.ledger.proofs.total.sum_of_arguments.Goals as goal

pub returns : goal.returns
returns g c = answered _ _ c.if-out-lt-SHEET_MOST.false _ _ c.if-count-lt3.false c.add_sheets.ensures
