-- `adding::form::read_form` meets its contract.
use mathlib.Core.Path.{sym, ap, ◌∙◌}
use Rattle.paper.specs.Heads.{head_of}
use Rattle.adding.proofs.FormTests.{unlined, too_few, no_head, begun}
use Rattle.adding.proofs.form.read_form.Goals as goal

pub returns-in_err-n : goal.returns-in_err-n
returns-in_err-n c = rw c.from_residual.ensures (unlined _ c.in_err-n.ensures)

pub returns-then-n-lt3 : goal.returns-then-n-lt3
returns-then-n-lt3 c = too_few _ _ _ c.in_ok-n.ensures c.if-n-lt3.true

pub returns-in_err-scale : goal.returns-in_err-scale
returns-in_err-scale c = rw c.from_residual-in_err-scale.ensures (no_head _ _ _ c.in_ok-n.ensures c.if-n-lt3.false (ap head_of (sym c.line_at.ensures) ∙ sym c.in_err-scale.ensures))

pub read_counts-requires : goal.read_counts-requires
read_counts-requires c = begun _ _ _ c.in_ok-n.ensures c.if-n-lt3.false _ _ (ap head_of (sym c.line_at.ensures) ∙ sym c.in_ok-scale.ensures)
