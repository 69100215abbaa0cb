-- How the code tests an index, without a second one: each row is where it belongs, and as many places are taken as there are rows (`taken_places`, index/specs/Taken.antt). That this
-- is the test of `index_ok` is `index_tested` (ranges/proofs/Tested.antt).
use Rattle.std.specs.Prelude.{Bool, false, ◌&&◌, ◌||◌, List, ℕ, suc, eqb, ltb, Option, None, Some}
use Rattle.index.specs.Index.{entry, sought, home_at}
use Rattle.ranges.specs.Range.{name_ok}

-- an entry is of no row before row r
unfoldable pub vacant : ℕ → ℕ → Bool
vacant r e = eqb e 0 || ltb r e

-- the entry at the distance found is row r's
abbrev pub holds_row : List ℕ → ℕ → ℕ → Option ℕ → Bool
holds_row l home r None = false
holds_row l home r (Some d) = eqb (entry l home d) (suc r)

-- the first place from home on that holds no row before row r holds row r
unfoldable pub row_placed : List ℕ → ℕ → ℕ → Bool
row_placed l home r = holds_row l home r (sought l home (vacant r))

-- a name's row is in its range, and is where it belongs in the index l: what the code tests of each name in one turn
abbrev pub name_tests : List ℕ → List ℕ → List ℕ → List ℕ → ℕ → Bool
name_tests names nums ticks l i = name_ok names nums ticks i && row_placed l (home_at names nums i) i
