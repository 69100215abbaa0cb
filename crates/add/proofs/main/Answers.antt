-- The output has room, and what it writes is the sum or the refusal that it was told.
use mathlib.Core.Logic.{inl}
use Rattle.std.proofs.Common.{rules}
use Rattle.ledger.proofs.Printing.{sum_told, refusal_told, size_right}
use Rattle.add.proofs.main.Goals as goal

pub print-requires : goal.print-requires
print-requires c = inl (sum_told _ _ _ (search rules) c.sum_of_arguments-sum.ensures c.in-Ok.is)

pub tell_sheet-requires : goal.tell_sheet-requires
tell_sheet-requires c = λ refusal e. refusal_told _ _ _ (search rules) c.sum_of_arguments-sum.ensures c.in-Err.is c.in-Sheet.is e

pub unreachable-requires : goal.unreachable-requires
unreachable-requires c = size_right _ _ _ (search rules) c.sum_of_arguments-sum.ensures c.in-Err.is c.in-WrongSize.is
