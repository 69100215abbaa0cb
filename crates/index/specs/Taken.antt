-- How many places of an index are taken. It is for the code that tests an index and for the laws: what the index of the names is does not need it.
use Rattle.std.specs.Prelude.{ℕ, not, List, ◌==◌, count_by}

unfoldable pub taken_places : List ℕ → ℕ
taken_places l = count_by (λ v. not (v == 0)) l
