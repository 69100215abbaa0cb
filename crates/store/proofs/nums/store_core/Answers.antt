-- `store::nums::store_core` meets its contract: no store for a line without a core, the state idle where it gives the core, and else the holder.
use Rattle.std.proofs.Common.{eq-eqb, ne_eqb}
use Rattle.rules.specs.Core.{no_core, gives_core}
use Rattle.store.specs.Store.{with_core}
use Rattle.store.proofs.nums.store_core.Goals as goal

pub returns-then-class-eq-NO_CORE : goal.returns-then-class-eq-NO_CORE
unfolding with_core
returns-then-class-eq-NO_CORE c = rw (eq-eqb _ no_core c.if-class-eq-NO_CORE.true)

pub returns-then-class-eq-GIVES_CORE : goal.returns-then-class-eq-GIVES_CORE
unfolding with_core
returns-then-class-eq-GIVES_CORE c = rw (ne_eqb _ no_core c.if-class-eq-NO_CORE.false, eq-eqb _ gives_core c.if-class-eq-GIVES_CORE.true) c.store_standing.ensures

pub returns : goal.returns
unfolding with_core
returns c = rw (ne_eqb _ no_core c.if-class-eq-NO_CORE.false, ne_eqb _ gives_core c.if-class-eq-GIVES_CORE.false) c.store_holder.ensures
