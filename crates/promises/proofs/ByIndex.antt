-- REQUEST No. 11, "finding names by hash": the index finds a name where a walk of all rows finds it, in every table that 16 does not refuse. So it is after
-- any lines from a fresh start.
use mathlib.Core.Path.{◌≡◌}
use mathlib.Core.List.{List}
use Prim.Native.Nat.{ℕ}
use Rattle.lookup.specs.Find.{find_name, walk_name}
use Rattle.lookup.proofs.Walks.{find_walks}
use Rattle.ranges.proofs.Valid.{Valid, valid}
use Rattle.promises.proofs.Judged.{after_lines, never_16}

pub walks_valid : (names nums ticks : List ℕ) → Valid names nums ticks → (name : List ℕ) → find_name names nums name ≡ walk_name names nums name
walks_valid names nums ticks v name = find_walks names nums v.sizes.names_sized v.sizes.nums_sized v.name_count_lem v.indexed name

pub walks_reached : (ls : List (List ℕ)) (name : List ℕ) → let t = after_lines ls in find_name t.names t.nums name ≡ walk_name t.names t.nums name
walks_reached ls name = let t = after_lines ls in walks_valid t.names t.nums t.ticks (valid t.names t.nums t.ticks (never_16 ls)) name
