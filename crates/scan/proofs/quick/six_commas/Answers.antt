-- `scan::quick::six_commas` meets its contract: its places are below 128, and it makes the definition's tests.
use Rattle.std.proofs.Common.{arith}
use Rattle.scan.specs.Quick.{are_commas}
use Rattle.scan.proofs.Places.{six_below}
use Rattle.scan.proofs.quick.six_commas.Goals as goal

pub comma-requires : goal.comma-requires
comma-requires c = let p = c.requires in omega (arith, p.long, six_below _ _ _ p)

pub comma-requires-2 : goal.comma-requires-2
comma-requires-2 c = let p = c.requires in omega (arith, p.long, six_below _ _ _ p)

pub comma-requires-3 : goal.comma-requires-3
comma-requires-3 c = let p = c.requires in omega (arith, p.long, six_below _ _ _ p)

pub comma-requires-4 : goal.comma-requires-4
comma-requires-4 c = let p = c.requires in omega (arith, p.long, six_below _ _ _ p)

pub comma-requires-5 : goal.comma-requires-5
comma-requires-5 c = let p = c.requires in omega (arith, p.long, six_below _ _ _ p)

pub comma-requires-6 : goal.comma-requires-6
comma-requires-6 c = let p = c.requires in omega (arith, p.long, six_below _ _ _ p)

pub returns : goal.returns
unfolding are_commas
returns c = cc
