-- The first sheet is held, refused or unread, and the others are added to it.
use Rattle.std.proofs.Common.{arith, rules}
use Rattle.ledger.proofs.Grown.{holds_first, first_not}
use Rattle.ledger.proofs.total.add_sheets.Goals as goal

pub add_others-requires : goal.add_others-requires
add_others-requires g c = (holds_first _ c.in-Ok.ensures, search rules, search rules, search rules, search rules)

pub returns-in-Err : goal.returns-in-Err
returns-in-Err g c = first_not _ _ _ (omega arith) c.in-Err.ensures
