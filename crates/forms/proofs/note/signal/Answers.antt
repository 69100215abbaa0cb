-- `forms::note::signal` meets its contract: a value whose first byte is a minus, and any other.
use Rattle.std.proofs.lemmas.Grind.{common_steps}
use native.Mathlib.Omega.{arith}
use Rattle.forms.proofs.Notes.{empty_decimal, minus_signal, plain_signal}
use Rattle.forms.proofs.note.signal.Goals as goal

pub returns-in-45 : goal.returns-in-45
returns-in-45 c = grind (arith, common_steps, minus_signal)

pub returns-in_default : goal.returns-in_default
returns-in_default c = grind (arith, common_steps, empty_decimal, plain_signal)
