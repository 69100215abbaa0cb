-- How many places of rows each section has.
use mathlib.Core.Path.{◌≡◌}
use mathlib.Core.List.{List}
use Prim.Native.Nat.{ℕ, ◌+◌}
use native.Mathlib.Omega.{arith}
use lib.ListN.{length, drop, length-drop}
use lib.Seq.{length-take-le}
use Rattle.adding.specs.declared.form.Form.{Form}
use Rattle.adding.specs.FormCode.{core_places, process_places, Sized}

module _ (starts : List ℕ) (f : Form) (z : Sized starts f) where
  pub core_count_lem : length (core_places starts f) ≡ f.cores
  core_count_lem = length-take-le f.cores (drop 2 starts) (omega (arith, length-drop 2 starts, z.sized, z.few))

  pub process_count : length (process_places starts f) ≡ f.processes
  process_count = length-take-le f.processes (drop (3 + f.cores) starts) (omega (arith, length-drop (3 + f.cores) starts, z.sized, z.names))
