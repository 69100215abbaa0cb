-- `lookup::find::reaches` meets its contract: at each exit the tests passed say what the definition's tests say.
use mathlib.Core.Path.{refl}
use borrow.Author.Tests.{lt-ltb, le-ltb, lt-leb, le-leb}
use Rattle.tables.proofs.Chains.{pass, stop}
use Rattle.lookup.specs.Find.{reaches_in}
use Rattle.lookup.proofs.find.reaches.Goals as goal

pub returns-then-j-ge-INSTANCE_ROWS : goal.returns-then-j-ge-INSTANCE_ROWS
unfolding reaches_in
returns-then-j-ge-INSTANCE_ROWS c = stop _ (le-ltb _ _ c.if-j-ge-INSTANCE_ROWS.true)

pub returns-then-nums-j : goal.returns-then-nums-j
unfolding reaches_in
returns-then-nums-j c = pass (lt-ltb _ _ c.if-j-ge-INSTANCE_ROWS.false) (stop _ (lt-leb _ _ c.if-nums-j.true))

pub returns : goal.returns
unfolding reaches_in
returns c = pass (lt-ltb _ _ c.if-j-ge-INSTANCE_ROWS.false) (pass (le-leb _ _ c.if-nums-j.false) refl)
