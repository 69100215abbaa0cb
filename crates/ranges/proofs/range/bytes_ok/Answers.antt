-- `ranges::range::bytes_ok` meets its contract: at each exit the tests passed say what the definition's tests say.
use mathlib.Core.Path.{ap, ◌∙◌}
use borrow.Author.Tests.{le-leb, lt-leb}
use Rattle.text.specs.Name.{is_name}
use Rattle.tables.proofs.Chains.{pass, stop}
use Rattle.tables.proofs.NameBytes.{lent_name}
use Rattle.ranges.specs.Range.{bytes_ok}
use Rattle.ranges.proofs.range.bytes_ok.Goals as goal

pub returns-then-n-gt-NAME_ROOM : goal.returns-then-n-gt-NAME_ROOM
unfolding bytes_ok
returns-then-n-gt-NAME_ROOM c = stop _ (lt-leb _ _ c.if-n-gt-NAME_ROOM.true)

pub returns : goal.returns
unfolding bytes_ok
returns c =
    let a = c.args in
    pass (le-leb _ _ c.if-n-gt-NAME_ROOM.false) (c.name.ensures ∙ ap is_name (lent_name a.names.now a.nums.now a.i))
