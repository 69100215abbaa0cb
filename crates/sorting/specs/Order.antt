-- The order of two names. 02, No. 2: "sorted by name bytes", unsigned and from the front, a beginning before what continues it.
use Rattle.std.specs.Prelude.{Bool, List, ℕ}
use Rattle.std.specs.Cmp.Lexicographic.{slice_cmp}
use Rattle.std.specs.declared.cmp.Ordering.{Ordering}
use Rattle.std.specs.Ordering.{nat_cmp, is_eq, is_lt}

abbrev pub Name : Type 0
Name = List ℕ

-- by the first byte that differs, which `nat_cmp` compares; where none does, by which of the two ends first
unfoldable pub order : Name → Name → Ordering
order = slice_cmp nat_cmp

abbrev pub is_same : Ordering → Bool
is_same = is_eq

abbrev pub is_less : Ordering → Bool
is_less = is_lt
