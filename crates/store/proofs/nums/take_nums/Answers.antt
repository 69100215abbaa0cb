-- `store::nums::take_nums` meets its contract: the places of new names after all other stores, in the rows as they were before them.
use Rattle.store.proofs.Stores.{nums_taken}
use Rattle.store.proofs.nums.take_nums.Goals as goal

pub returns : goal.returns
returns c =
    nums_taken _ _ _ _
    c.kind_number-kind.ensures
    c.core_row-i.ensures
    c.target_row-p.ensures
    c.take_entries.ensures
    c.store_places.ensures
