-- What a look-up finds: the row of a name, by the index; the last row of an instance, and of one that bears a number or a higher one.
use Rattle.std.specs.Prelude.{Bool, ◌&&◌, ◌||◌, cond, List, ℕ, zero, suc, ◌-◌, eqb, leb, ltb, length, None, Some, Option}
use Rattle.text.specs.Bytes.{same_bytes}
use Rattle.marks.specs.First.{first_of}
use Rattle.tables.specs.Entry.{name_rows, instance_rows, name_room, names_size, nums_size, name_count, length_at, name_at, instance_count, owner_at, instance_at, places}
use Rattle.index.specs.Hash.{home_of}
use Rattle.index.specs.Index.{entry, sought}

-- the last number below n that passes the test
unfoldable pub last_below : (ℕ → Bool) → ℕ → Option ℕ
last_below f zero = None
last_below f (suc n) = cond (f n) (Some n) (last_below f n)

-- row i holds the name
unfoldable pub row_is : List ℕ → List ℕ → List ℕ → ℕ → Bool
row_is names nums name i = ltb i name_rows && (eqb (length_at nums i) (length name) && (leb (length_at nums i) name_room && same_bytes (name_at names nums i) name))

-- by the index: a search ends at a free place, or at that of a row that holds the name
unfoldable pub ends_at : List ℕ → List ℕ → List ℕ → ℕ → Bool
ends_at names nums name e = eqb e 0 || row_is names nums name (e - 1)

-- the row at the distance found: none where the place is free
abbrev pub row_met : List ℕ → ℕ → Option ℕ → Option ℕ
row_met l home None = None
row_met l home (Some d) = cond (eqb (entry l home d) 0) None (Some (entry l home d - 1))

unfoldable pub find_name : List ℕ → List ℕ → List ℕ → Option ℕ
find_name names nums name =
    cond (eqb (length names) names_size && eqb (length nums) nums_size)
    (row_met (places nums) (home_of name) (sought (places nums) (home_of name) (ends_at names nums name)))
    None

-- by a walk of all rows, the first that holds the name. In tables that 16 does not refuse it is the same (`find_walks`, lookup/proofs/Walks.antt)
unfoldable pub walk_name : List ℕ → List ℕ → List ℕ → Option ℕ
walk_name names nums name = first_of (row_is names nums name) 0 (name_count nums)

-- row j is the instance of an owner with a number
unfoldable pub instance_is : List ℕ → ℕ → ℕ → ℕ → Bool
instance_is nums owner number j = ltb j instance_rows && (eqb (instance_at nums j) number && eqb (owner_at nums j) owner)

unfoldable pub find_instance : List ℕ → ℕ → ℕ → Option ℕ
find_instance nums owner number = cond (eqb (length nums) nums_size) (last_below (instance_is nums owner number) (instance_count nums)) None

-- row j is an instance of an owner with a number or a higher one
unfoldable pub reaches_in : List ℕ → ℕ → ℕ → ℕ → Bool
reaches_in nums owner number j = ltb j instance_rows && (leb number (instance_at nums j) && eqb (owner_at nums j) owner)

unfoldable pub find_from : List ℕ → ℕ → ℕ → Option ℕ
find_from nums owner number = cond (eqb (length nums) nums_size) (last_below (reaches_in nums owner number) (instance_count nums)) None
