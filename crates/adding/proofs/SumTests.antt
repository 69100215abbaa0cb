-- The sums of a sheet, by what `all_held` and `charges_make` find.
use Rattle.std.proofs.Common.{None, Some, Option}
use mathlib.Core.Path.{◌≡◌, sym, ◌∙◌}
use mathlib.Core.Bool.{Bool, false}
use mathlib.Core.List.{List, map}
use Prim.Native.Nat.{ℕ}
use Rattle.text.specs.Lists.{all}
use Rattle.bill.specs.Reading.{row_from}
use Rattle.shifts.specs.Sound.{firsts}
use Rattle.paper.specs.Rows.{core_ok}
use Rattle.paper.proofs.Numbers.{if_value, if_bad}
use Rattle.adding.specs.RowCode.{all_held, charges_make, sums_right}

module _ (span : ℕ) (cs ps : List (List ℕ)) (r : Option ℕ) (held : r ≡ all_held span cs) where
  pub sums_wrong : r ≡ None → false ≡ sums_right span cs ps
  unfolding sums_right all_held
  sums_wrong e = rw (if_bad (all (core_ok span) cs) (firsts (map row_from cs)) (sym held ∙ e))

  pub sums_made : (t : ℕ) → r ≡ Some t → {q : Bool} → q ≡ charges_make t ps → q ≡ sums_right span cs ps
  unfolding sums_right all_held
  sums_made t e c = let w = if_value (all (core_ok span) cs) (firsts (map row_from cs)) t (sym held ∙ e) in c ∙ rw (w.0, w.1)
