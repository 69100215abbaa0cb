-- The index of the names: what putting the rows into it in their order gives. An index is a list of 512 entries, 0 for a free place, else 1 + a row.
use Rattle.std.specs.Prelude.{ℕ, zero, suc, ◌+◌, ◌%◌, Bool, List, replicate, nat_eq, slice_index, slice_set, Option, None, Some}
use Rattle.marks.specs.First.{first_of}
use Rattle.tables.specs.Entry.{place_rows, name_count, name_at}
use Rattle.index.specs.Hash.{home_of}

-- the place at a distance from home, around the end, and its entry
abbrev pub place : ℕ → ℕ → ℕ
place home d = (home + d) % place_rows

abbrev pub entry : List ℕ → ℕ → ℕ → ℕ
entry l home d = slice_index l (place home d)

-- a search goes from home on, around the end: the distance of the first entry that passes the test
abbrev pub sought : List ℕ → ℕ → (ℕ → Bool) → Option ℕ
sought l home f = first_of (λ d. f (entry l home d)) 0 place_rows

-- the place at the distance found; where none was found, the one past the last, which is none
abbrev pub place_found : ℕ → Option ℕ → ℕ
place_found home (Some d) = place home d
place_found home None = place_rows

-- "with the next free place tried on a clash": the first free place from home on
unfoldable pub free : List ℕ → ℕ → ℕ
free l home = place_found home (sought l home (λ e. nat_eq e 0))

-- the index that n rows give whose homes are these: each row in turn into the first free place, and at the start all are free
unfoldable pub index_of : (ℕ → ℕ) → ℕ → List ℕ
index_of home zero = replicate place_rows 0
index_of home (suc n) = slice_set (index_of home n) (free (index_of home n) (home n)) (suc n)

-- ---- in lent tables

unfoldable pub home_at : List ℕ → List ℕ → ℕ → ℕ
home_at names nums i = home_of (name_at names nums i)

-- the index that the table's names give in order
unfoldable pub index_from : List ℕ → List ℕ → List ℕ
index_from names nums = index_of (home_at names nums) (name_count nums)
