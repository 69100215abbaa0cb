-- `line::event::Fields::numbers` meets its contract: an instance is at most the greatest one, so that the cast keeps it.
use Rattle.std.proofs.Common.{sym, ◌∙◌, arith}
use Rattle.text.proofs.Digits.{read_written}
use Rattle.line.proofs.event.Fields.numbers.Goals as goal

pub overflow_cast-result : goal.overflow_cast-result
overflow_cast-result c = omega (arith, (read_written _ _ _ (sym c.read_number-2.ensures ∙ c.in_ok-source.was)).1)

pub overflow_cast-result-2 : goal.overflow_cast-result-2
overflow_cast-result-2 c = omega (arith, (read_written _ _ _ (sym c.read_number-3.ensures ∙ c.in_ok-target.was)).1)
