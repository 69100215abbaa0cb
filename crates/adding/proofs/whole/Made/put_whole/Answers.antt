-- `adding::whole::Made::put_whole` meets its contract: the length comes first, so an output that is too short is left as it is.
use native.Mathlib.Omega.{arith}
use Rattle.adding.proofs.Intos.{into_short, into_fits}
use Rattle.adding.proofs.whole.Made.put_whole.Goals as goal

pub returns-then-out-length : goal.returns-then-out-length
returns-then-out-length c = into_short _ _ (omega arith)

pub returns : goal.returns
returns c = into_fits _ _ c.length-length.ensures (omega arith) c.put.ensures
