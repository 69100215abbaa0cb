-- `lookup::find::find_from` meets its contract. The invariant: the last row that reaches the number is the last such row below `j`.
use mathlib.Core.Path.{◌≡◌}
use Rattle.lookup.specs.Find.{reaches_in, last_below, find_from}
use Rattle.lookup.proofs.find.find_from.Given as goal

abbrev pub invariant-loop-j : goal.invariant-loop-j
invariant-loop-j l = find_from l.nums l.owner l.number ≡ last_below (reaches_in l.nums l.owner l.number) l.j
