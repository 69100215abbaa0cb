-- `paper::row::charge_in` meets its contract.
use mathlib.Core.Path.{sym, ◌∙◌}
use Rattle.paper.proofs.RowTests.{process_unnamed, process_charge_lem}
use Rattle.paper.proofs.row.charge_in.Goals as goal

pub returns-then-not-named : goal.returns-then-not-named
returns-then-not-named c = process_unnamed _ _ (sym c.named.ensures ∙ c.if-not-named.true)

pub returns : goal.returns
returns c = c.figure.ensures ∙ process_charge_lem _ _ (sym c.named.ensures ∙ c.if-not-named.false)
