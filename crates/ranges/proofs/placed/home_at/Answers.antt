-- `ranges::placed::home_at` meets its contract: the part of the names that is lent is the row's name.
use mathlib.Core.Path.{ap, ◌∙◌}
use Rattle.tables.proofs.NameBytes.{lent_name}
use Rattle.index.specs.Hash.{home_of}
use Rattle.index.specs.Index.{home_at}
use Rattle.ranges.proofs.placed.home_at.Goals as goal

pub returns : goal.returns
unfolding home_at
returns c =
    let a = c.args in
    c.home_of.ensures ∙ ap home_of (lent_name a.names.now a.nums.now a.i)
