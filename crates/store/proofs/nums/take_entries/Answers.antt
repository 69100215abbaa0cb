-- `store::nums::take_entries` meets its contract: the stores one after another, with the rows as they were before them.
use Rattle.store.proofs.Stores.{entries_taken}
use Rattle.store.proofs.nums.take_entries.Goals as goal

pub returns : goal.returns
returns c =
    entries_taken _ _ _ _
    c.kind_number-kind.ensures
    c.action_code-word.ensures
    c.core_row-i.ensures
    c.target_row-p.ensures
    c.new_core-core.ensures
    c.new_name-name.ensures
    c.store_rows.ensures
    c.store_target.ensures
    c.store_core.ensures
    c.store_counts.ensures
    c.store_entry.ensures
