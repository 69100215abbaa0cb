-- The bytes of a name in its row: the part of the table that code lends for it, and its length.
use mathlib.Core.Path.{◌≡◌}
use mathlib.Core.List.{List}
use Prim.Native.Nat.{ℕ, ◌+◌, ◌-◌, ◌*◌, ◌≤◌, ◌<◌}
use native.Mathlib.Omega.{arith}
use lib.ListN.{length, take, drop, length-take, length-drop}
use Rattle.tables.specs.Entry.{name_rows, name_room, names_size, length_at, name_at}

-- the part of the names that code lends for row i is its name
pub lent_name : (names nums : List ℕ) (i : ℕ) → take ((name_room * i + length_at nums i) - name_room * i) (drop (name_room * i) names) ≡ name_at names nums i
lent_name names nums i = let e : (name_room * i + length_at nums i) - name_room * i ≡ length_at nums i = omega arith in rw e

pub name_size : (names nums : List ℕ) (i : ℕ) → length names ≡ names_size → i < name_rows → length_at nums i ≤ name_room → length (name_at names nums i) ≡ length_at nums i
name_size names nums i s h k = simp (length-take, length-drop) (omega arith)
