-- What may be written to standard output: the text of a sum, or the line of a refusal.
use Rattle.std.specs.Prelude.{◌≡◌, ◌⊎◌, List, [], ◌∷◌, ◌++◌, ℕ, ◌≤◌, length, take}
use Rattle.text.specs.Literal.{bytes}
use Rattle.text.specs.Number.{digits_of}
use Rattle.ledger.specs.Totals.{IsSum, IsRefusal}

unfoldable pub refused_line : ℕ → List ℕ
refused_line n = bytes "refused " ++ digits_of n ++ 10 ∷ []

-- room for it, of a number below 2^64
abbrev pub line_most : ℕ
line_most = 32

-- the first n bytes are the line of a refusal of some sheets
pub record IsRefused (n : ℕ) (s : List ℕ) : Type 0 where
  pub number : ℕ
  pub refuses : IsRefusal number
  pub line : take n s ≡ refused_line number
  pub fits : n ≤ length s

abbrev pub IsAnswer : ℕ → List ℕ → Type 0
IsAnswer n s = IsSum n s ⊎ IsRefused n s
