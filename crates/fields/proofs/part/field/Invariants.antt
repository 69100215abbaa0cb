-- `fields::part::field` meets its contract. The invariant: the `j`-th part starts at `a`.
use mathlib.Core.Path.{◌≡◌}
use Prim.Native.Nat.{◌-◌, ◌≤◌}
use lib.ListN.{length}
use Rattle.fields.specs.Part.{start_at}
use Rattle.fields.proofs.Parts.{From}
use Rattle.fields.proofs.part.field.Given as goal

abbrev pub invariant-loop-j : goal.invariant-loop-j
invariant-loop-j l = (l.a ≤ length l.line) × From l.line (l.j - 1) l.a × (l.a ≡ start_at l.line (l.j - 1))
