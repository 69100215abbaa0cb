-- `paper::line::name_at` meets its contract: a row's name is the first word of its line.
use mathlib.Core.Path.{ap, ◌∙◌}
use Rattle.bill.specs.Reading.{word_of, row_from}
use Rattle.paper.proofs.line.name_at.Goals as goal

pub returns : goal.returns
unfolding row_from
returns c = c.word.ensures ∙ ap (λ l. word_of l 0) c.line_at.ensures
