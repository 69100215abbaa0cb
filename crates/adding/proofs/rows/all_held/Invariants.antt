-- `adding::rows::all_held` meets its contract. The invariant: what the rows from where the loop stands on come to, with `total`, is what all come to.
use mathlib.Core.Path.{◌≡◌}
use mathlib.Core.List.{map}
use Prim.Native.Nat.{◌*◌, ◌≤◌}
use lib.ListN.{drop}
use Rattle.text.specs.Sizes.{max_time}
use Rattle.paper.specs.Lines.{line_from}
use Rattle.adding.specs.RowCode.{all_held}
use Rattle.adding.proofs.RowWalks.{held_with}
use Rattle.adding.proofs.rows.all_held.Given as goal

abbrev pub invariant-loop-p : goal.invariant-loop-p
invariant-loop-p l =
    (l.total ≤ l.p-index * max_time)
    × (all_held l.span (map (line_from l.text) l.places) ≡ held_with l.span l.total (map (line_from l.text) (drop l.p-index l.places)))
