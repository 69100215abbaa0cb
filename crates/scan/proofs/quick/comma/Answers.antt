-- `scan::quick::comma` meets its contract.
use Rattle.std.proofs.Common.{refl}
use Rattle.scan.specs.Quick.{is_comma}
use Rattle.scan.proofs.quick.comma.Goals as goal

pub returns : goal.returns
unfolding is_comma
returns c = refl
