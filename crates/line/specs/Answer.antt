-- "The lowest number that applies wins."
use Rattle.std.specs.Prelude.{◌≡◌, Bool, true, false, cond, List, [], ◌∷◌, ℕ, ◌<◌, eqb}

-- a number of document 01's table, and whether its condition holds
pub record Test : Type 0 where
  pub number : ℕ
  pub applies : Bool

abbrev pub test : ℕ → Bool → Test
test n b = record { number = n; applies = b }

-- the first number whose condition holds, 0 where none does; lists of tests stand in the order of their numbers
abbrev pub lowest : List Test → ℕ
lowest [] = 0
lowest (t ∷ ts) = cond t.applies t.number (lowest ts)

-- whether the condition of number n holds
abbrev pub holds : ℕ → List Test → Bool
holds n [] = false
holds n (t ∷ ts) = cond (eqb t.number n) t.applies (holds n ts)

-- the condition of n holds, and that of no lower number
abbrev pub IsLowest : List Test → ℕ → Type 0
IsLowest ts n = (holds n ts ≡ true) × ((m : ℕ) → m < n → holds m ts ≡ false)
