-- How far a walk of two sections goes on at a turn: by at most one row in each, and by one in some.
use Prim.Native.Nat.{◌+◌, ◌≤◌}
use native.Mathlib.Omega.{arith}
use Rattle.std.specs.declared.cmp.Ordering.{Ordering}
use Rattle.std.specs.declared.cmp.Ordering.TheVariants.{Less, Equal, Greater}
use Rattle.shifts.specs.Merge.{left_step, right_step}

pub record Step (o : Ordering) : Type 0 where
  pub first : left_step o ≤ 1
  pub second : right_step o ≤ 1
  pub some : 1 ≤ left_step o + right_step o

pub step : (o : Ordering) → Step o
step Less = omega arith
step Equal = omega arith
step Greater = omega arith
