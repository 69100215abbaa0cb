-- `paper::head::read_count` meets its contract.
use mathlib.Core.Path.{sym, ◌∙◌}
use borrow.Author.Rules.{rules}
use Rattle.text.proofs.Words.{starts_long}
use Rattle.paper.proofs.Heads.{no_title, title_there}
use Rattle.paper.proofs.head.read_count.Goals as goal

pub returns-then-not-starts : goal.returns-then-not-starts
returns-then-not-starts c = no_title _ _ _ (sym c.starts.ensures ∙ c.if-not-starts.true)

-- the title is no longer than the line
pub slice_bounds-read_number-count : goal.slice_bounds-read_number-count
slice_bounds-read_number-count c = starts_long _ _ (sym c.starts.ensures ∙ c.if-not-starts.false)

pub slice_bounds-read_number-start : goal.slice_bounds-read_number-start
slice_bounds-read_number-start c =
    let h = starts_long c.args.line.now c.args.title.now (sym c.starts.ensures ∙ c.if-not-starts.false) in search rules

pub returns : goal.returns
returns c = c.read_number.ensures ∙ title_there _ _ _ (sym c.starts.ensures ∙ c.if-not-starts.false)
