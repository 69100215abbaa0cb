-- `scan::quick::places` meets its contract: each of the numbers is the one before it without its first mark.
use Rattle.scan.specs.Quick.{without, places_of}
use Rattle.scan.proofs.quick.places.Goals as goal

pub returns : goal.returns
unfolding places_of without
returns c = cc
