-- `store::ticks::store_times` meets its contract: the first time is stored at the first event only, the last time always.
use Rattle.std.proofs.Common.{eq-eqb, ne_eqb}
use Rattle.store.specs.Store.{with_times}
use Rattle.store.proofs.ticks.store_times.Goals as goal
use Rattle.store.proofs.ticks.store_times.Goals.{then-started-eq0, else-started-eq0}

pub returns : goal.returns
unfolding with_times
returns c =
    elim c.if-started-eq0.branch [
      | then-started-eq0 w ↦ rw (eq-eqb _ 0 w.if-started-eq0.true, w.ticks-is)
      | else-started-eq0 w ↦ rw (ne_eqb _ 0 w.if-started-eq0.false, w.ticks-is)
    ]
