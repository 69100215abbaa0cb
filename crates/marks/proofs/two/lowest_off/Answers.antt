-- `marks::two::lowest_off` meets its contract.
use Rattle.marks.proofs.Marked.{off_wrapped}
use Rattle.marks.proofs.two.lowest_off.Goals as goal

pub returns : goal.returns
returns c = off_wrapped c.args.x c.ranges.x.fits
