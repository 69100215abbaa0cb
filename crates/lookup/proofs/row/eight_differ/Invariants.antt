-- `lookup::row::eight_differ` meets its contract. The invariant: where two bytes differed, the row is not the name; where none did yet, both are the same
-- from `at` on if they are from at + k on.
use mathlib.Core.Path.{◌≡◌}
use mathlib.Core.Bool.{true, false}
use Prim.Native.Nat.{◌+◌}
use lib.ListN.{drop}
use Rattle.text.specs.Bytes.{same_bytes}
use Rattle.lookup.proofs.row.eight_differ.Given as goal

abbrev pub invariant-loop-k : goal.invariant-loop-k
invariant-loop-k l = (l.differ ≡ true → same_bytes l.row l.name ≡ false) × (l.differ ≡ false → drop (l.at + l.k) l.row ≡ drop (l.at + l.k) l.name → drop l.at l.row ≡ drop l.at l.name)
