-- `adding::rows::sums_right` meets its contract.
use Rattle.adding.proofs.SumTests.{sums_wrong, sums_made}
use Rattle.adding.proofs.rows.sums_right.Goals as goal

pub returns-in_default : goal.returns-in_default
returns-in_default c = sums_wrong _ _ _ _ c.all_held.ensures c.in_default.is

pub returns : goal.returns
returns c = sums_made _ _ _ _ c.all_held.ensures _ c.in-Some.is c.charges_make.ensures
