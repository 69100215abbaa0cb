-- Tables of the right sizes, 15: "lent output or table of the wrong size".
use Rattle.std.specs.Prelude.{◌≡◌, Bool, ◌&&◌, List, ℕ, eqb, length}
use Rattle.tables.specs.Entry.{names_size, nums_size, ticks_size}

-- what the code needs before it reads or stores an entry
pub record Sized (names nums ticks : List ℕ) : Type 0 where
  pub names_sized : length names ≡ names_size
  pub nums_sized : length nums ≡ nums_size
  pub ticks_sized : length ticks ≡ ticks_size

-- its test, by the three lengths
unfoldable pub is_sized : ℕ → ℕ → ℕ → Bool
is_sized names nums ticks = eqb names names_size && (eqb nums nums_size && eqb ticks ticks_size)
