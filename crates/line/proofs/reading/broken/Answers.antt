-- `line::reading::broken` meets its contract: a plain line has no break.
use mathlib.Core.Path.{sym}
use Rattle.line.proofs.Plain.{plain_whole}
use Rattle.line.proofs.reading.broken.Goals as goal

pub returns-else-not-plain : goal.returns-else-not-plain
returns-else-not-plain c = rw c.if-not-plain.false (sym (plain_whole _ (c.requires c.if-not-plain.false)))
