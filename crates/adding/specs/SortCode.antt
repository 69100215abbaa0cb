-- FOR THE CODE ALONE: rows in the order of their names, each known by the place where its line begins.
use Rattle.std.specs.Prelude.{◌≡◌, Bool, true, false, List, map, ℕ, ◌+◌, length, take}
use Rattle.sorting.specs.Sets.{has, twice, insert_by, sorted_by}
use Rattle.paper.specs.Lines.{name_at}

-- a row put among others: their places then, or that its name is one of theirs
abbrev pub Inserted : List ℕ → List ℕ → ℕ → List ℕ → Bool → Type 0
Inserted text places p after true =
    (has (name_at text p) (map (name_at text) places) ≡ false) × (take (length places + 1) after ≡ insert_by (name_at text) p places)
Inserted text places p after false = has (name_at text p) (map (name_at text) places) ≡ true

-- all rows put in order: no name stands twice, and the first entries have their places; or one does
pub record SortedInto (text places sorted : List ℕ) : Type 0 where
  pub once : twice (map (name_at text) places) ≡ false
  pub rows : take (length places) sorted ≡ sorted_by (name_at text) places

abbrev pub Sorting : List ℕ → List ℕ → List ℕ → Bool → Type 0
Sorting text places sorted true = SortedInto text places sorted
Sorting text places sorted false = twice (map (name_at text) places) ≡ true
