-- `adding::rows::charges_make` meets its contract. The invariant: the rows are right exactly if those from where the loop stands on make what is left.
use mathlib.Core.Path.{◌≡◌}
use mathlib.Core.List.{map}
use lib.ListN.{drop}
use Rattle.paper.specs.Lines.{line_from}
use Rattle.adding.specs.RowCode.{charges_make}
use Rattle.adding.proofs.rows.charges_make.Given as goal

abbrev pub invariant-loop-p : goal.invariant-loop-p
invariant-loop-p l = (charges_make l.held (map (line_from l.text) l.places) ≡ charges_make l.left (map (line_from l.text) (drop l.p-index l.places)))
