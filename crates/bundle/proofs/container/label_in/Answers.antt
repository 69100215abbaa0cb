-- The blank that is looked for from index 6 on is not before it.
use Rattle.std.proofs.Common.{arith}
use Rattle.text.proofs.Finds.{find_ge}
use Rattle.bundle.proofs.container.label_in.Goals as goal

pub slice_bounds-result-count : goal.slice_bounds-result-count
slice_bounds-result-count c = omega (arith, find_ge 32 c.args.header.now 6)

pub slice_bounds-result-start : goal.slice_bounds-result-start
slice_bounds-result-start c = omega (arith, find_ge 32 c.args.header.now 6)
