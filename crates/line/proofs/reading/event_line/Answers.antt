-- `line::reading::event_line` meets its contract: the first byte tells, and the empty line has none.
use Rattle.std.proofs.lemmas.Grind.{common_steps}
use native.Mathlib.Omega.{arith}
use Rattle.line.proofs.Lines.{empty_event, first_event}
use Rattle.line.proofs.reading.event_line.Goals as goal

pub returns : goal.returns
returns c = grind (arith, common_steps, empty_event, first_event)
