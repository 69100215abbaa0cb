-- `store::nums::store_counts` meets its contract: each count is read after the stores before it, which leave it as it was.
use Rattle.store.proofs.Stores.{counts_stored}
use Rattle.store.proofs.nums.store_counts.Goals as goal

pub returns : goal.returns
returns c = counts_stored _ _ _ c.wrapping_add_u32.ensures.value c.wrapping_add_u32-2.ensures.value c.wrapping_add_u32-3.ensures.value
