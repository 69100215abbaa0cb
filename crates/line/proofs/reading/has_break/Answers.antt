-- `line::reading::has_break` meets its contract.
use lib.Dec.{eqb}
use mathlib.Core.Bool.{◌||◌}
use mathlib.Core.Path.{◌∙◌}
use borrow.Author.Rules.{rules}
use Rattle.std.proofs.Common.{tests}
use Rattle.std.proofs.lemmas.Iterator.{YieldsList-from_slice}
use Rattle.std.proofs.lemmas.Iterator.Search.{any_from_yields_List}
use Rattle.line.proofs.Lines.{any_break}
use Rattle.line.proofs.reading.has_break.Goals as goal

pub returns : goal.returns
returns c =
    let s = c.args.line.now in
    any_from_yields_List (λ x. eqb x 10 || eqb x 13) _ _ c.any.result c.any.ensures.ran (YieldsList-from_slice s cc) (λ x b q k. search (rules, tests)) ∙ any_break s
