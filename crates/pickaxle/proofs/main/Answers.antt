-- What it lends has the right sizes, so it is not refused, and what it writes is the text that it was told.
use Rattle.std.proofs.Common.{rules, ap}
use Rattle.input.specs.Reads.{error_number}
use Rattle.input.proofs.Texts.{text_told, sizes_taken}
use Rattle.pickaxle.proofs.main.Goals as goal

pub print-requires : goal.print-requires
print-requires c = text_told _ _ (search rules) c.text_of_input-text.ensures c.in-Ok.is

pub unreachable-requires : goal.unreachable-requires
unreachable-requires c =
    sizes_taken _ _ (search rules) c.text_of_input-text.ensures (ap error_number c.in-WrongSize.is) c.in-Err.is

pub unreachable-requires-in-OutOfRange : goal.unreachable-requires-in-OutOfRange
unreachable-requires-in-OutOfRange c =
    sizes_taken _ _ (search rules) c.text_of_input-text.ensures (ap error_number c.in-OutOfRange.is) c.in-Err.is
