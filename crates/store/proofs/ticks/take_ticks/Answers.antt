-- `store::ticks::take_ticks` meets its contract: the stores one after another, with the rows as they were before them.
use Rattle.store.proofs.Stores.{ticks_taken}
use Rattle.store.proofs.ticks.take_ticks.Goals as goal

pub returns : goal.returns
returns c = ticks_taken _ _ _ _ _ c.core_row-i.ensures c.target_row-p.ensures c.store_all_sums.ensures c.settle.ensures c.store_times.ensures
