-- A line adds at most one row for its core and one for its target.
use Rattle.std.proofs.Common.{None, Some, Option}
use mathlib.Core.Path.{◌≡◌}
use mathlib.Core.Bool.{Bool, true, false, not}
use Prim.Native.Nat.{ℕ, ◌≤◌}
use native.Mathlib.Omega.{arith}
use lib.Dec.{eqb}
use Rattle.rules.specs.Core.{no_core}
use Rattle.lookup.specs.declared.look.LookedUp.{LookedUp}
use Rattle.lookup.specs.LookedUp.{rows_added, new_core}

pub one_at_most : {r : ℕ} (b : Bool) (f : Option ℕ) → r ≡ rows_added b f → r ≤ 1
one_at_most false f e = omega arith
one_at_most true (Some i) e = omega arith
one_at_most true None e = omega arith

-- so at most one row for the line's core
pub one_core : {r : ℕ} (s : LookedUp) → r ≡ new_core s → r ≤ 1
one_core s e = one_at_most (not (eqb s.class no_core)) s.source e
