-- `paper::line::amount` meets its contract.
use Rattle.paper.specs.Lines.{amount_in}
use Rattle.paper.proofs.line.amount.Goals as goal

pub returns : goal.returns
unfolding amount_in
returns c = rw (c.unwrap_or.ensures, ← c.figure.ensures)
