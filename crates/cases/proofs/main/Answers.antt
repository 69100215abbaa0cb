-- The lengths come from laws: Rattle itself would count the million elements of the input one by one.
use Rattle.std.proofs.Common.{ℕ, sym}
use lib.ListN.{length-replicate}
use lib.Seq.{length-take-le}
use Rattle.cases.proofs.main.Goals as goal

pub slice_bounds-read_full-end : goal.slice_bounds-read_full-end
slice_bounds-read_full-end c = sym (length-replicate {0} {A = ℕ} 1048576 0)

pub slice_bounds-input-end : goal.slice_bounds-input-end
slice_bounds-input-end c = c.read_full-n.ensures

pub slice_bounds-say_all-end : goal.slice_bounds-say_all-end
slice_bounds-say_all-end c = sym (length-take-le _ _ c.read_full-n.ensures)
