-- The answer is there.
use Rattle.std.proofs.Common.{arith}
use Rattle.add.proofs.Lines.{answer_fits}
use Rattle.add.proofs.print.Goals as goal

pub slice_bounds-write_all-end : goal.slice_bounds-write_all-end
slice_bounds-write_all-end c = omega (arith, answer_fits _ _ c.requires)
