-- A number that was told goes on behind it, and no further than the end.
use Rattle.std.specs.Prelude.{ℕ, ◌≤◌, ◌<◌}
use Rattle.try_sheets.specs.declared.Told.{Told}

pub record Step (r : Told) (at end : ℕ) : Type 0 where
  pub small : r.number ≤ 65536
  pub within : r.next ≤ end
  pub on : at ≤ r.next
  pub further : at < end → at < r.next
