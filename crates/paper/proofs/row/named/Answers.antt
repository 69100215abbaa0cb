-- `paper::row::named` meets its contract.
use mathlib.Core.Path.{sym, ◌∙◌}
use Rattle.paper.proofs.RowTests.{other_words, name_tested}
use Rattle.paper.proofs.row.named.Goals as goal

pub returns-then-word_count-count : goal.returns-then-word_count-count
returns-then-word_count-count c = other_words _ _ (λ e. c.if-word_count-count.true (c.word_count.ensures ∙ e))

pub returns : goal.returns
returns c = name_tested _ _ (sym c.word_count.ensures ∙ c.if-word_count-count.false) c.word.ensures c.name.ensures
