-- What is told of sheets, with no order in it: a sum is what all of them come to together, and where some are refused, all come to nothing, whatever follows.
use Rattle.std.proofs.Common.{None, Some}
use mathlib.Core.Path.{◌≡◌, sym, ap, ◌∙◌}
use mathlib.Core.List.{List, [], ◌∷◌, ◌++◌}
use Prim.Native.Nat.{ℕ, ◌≤◌, ◌<◌}
use native.Mathlib.Omega.{arith}
use lib.ListN.{length}
use Rattle.shifts.specs.Many.{sum_from}
use Rattle.shifts.specs.Together.{together}
use Rattle.shifts.specs.Grouping.{bytes_of}
use Rattle.shifts.proofs.Groupings.{all_together}
use Rattle.ledger.specs.Totals.{sheets_in, RefusedAt, Summed}
use Rattle.ledger.proofs.Tight.{refused_at}

two_together : (t : List ℕ) (us : List (List ℕ)) → 0 < length us → together (t ∷ us) ≡ bytes_of (sum_from t us)
two_together t [] h = absurd (omega arith)
two_together t (u ∷ us) h = sym (all_together t u us)

pub sum_together : {n count : ℕ} {l m : List ℕ} → 3 ≤ count → (w : Summed n count l m) → together (sheets_in w.sum.came) ≡ Some w.sum.text
sum_together h w =
    let c = w.sum.came in
    two_together c.first c.others (omega (arith, c.counted)) ∙ ap bytes_of c.total

pub refused_together : {n k : ℕ} (w : RefusedAt n k) (more : List (List ℕ)) → 0 < length (w.came.others ++ more) → together (sheets_in w.came ++ more) ≡ None
refused_together w more h = two_together w.came.first (w.came.others ++ more) h ∙ ap bytes_of (refused_at w more)
