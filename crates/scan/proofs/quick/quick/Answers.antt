-- `scan::quick::quick` meets its contract: where it tells a line, that is the next one.
use Rattle.std.proofs.Common.{arith}
use Rattle.scan.specs.Quick.{places_in}
use Rattle.scan.proofs.Right.{told_right}
use Rattle.scan.proofs.quick.quick.Goals as goal

-- the places are those of the next 128 bytes, and seven of them are there
pub six_commas-requires : goal.six_commas-requires
unfolding places_in
six_commas-requires c = record { long = omega arith; places = cc; seven = omega arith }

pub after_six-requires : goal.after_six-requires
unfolding places_in
after_six-requires c = record { long = omega arith; places = cc; seven = omega arith }

pub returns : goal.returns
unfolding places_in
returns c t =
    let e = c.after_six.ensures in
    rw e (told_right _ _ _ (record { long = omega arith; places = cc; seven = omega arith }) (cc) (rw e at t))
