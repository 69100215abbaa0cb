-- Creation dates: "YYYY-MM-DDTHH:MM:SSZ, a real Gregorian date (years 0000 to 9999), hour 0 to 23, minute and second 0 to 59".
use Rattle.std.specs.Prelude.{ℕ, ◌+◌, ◌-◌, ◌*◌, ◌%◌, Bool, true, false, not, ◌&&◌, ◌||◌, cond, List, [], ◌∷◌, eqb, leb, get_or}
use Rattle.text.specs.Literal.{bytes}
use Rattle.text.specs.Number.{is_digit}

-- a byte fits a pattern's byte: any digit fits a 0, and else it is that byte
unfoldable pub fits_byte : ℕ → ℕ → Bool
fits_byte x p = cond (eqb p 48) (is_digit x) (eqb x p)

unfoldable pub fits_pattern : List ℕ → List ℕ → Bool
fits_pattern [] [] = true
fits_pattern [] (p ∷ ps) = false
fits_pattern (x ∷ s) [] = false
fits_pattern (x ∷ s) (p ∷ ps) = fits_byte x p && fits_pattern s ps

-- the digit at an index, and the number of two digits from an index on
unfoldable pub digit_at : List ℕ → ℕ → ℕ
digit_at s i = get_or s i 0 - 48

unfoldable pub two_at : List ℕ → ℕ → ℕ
two_at s i = digit_at s i * 10 + digit_at s (i + 1)

-- the Gregorian calendar
unfoldable pub is_leap : ℕ → Bool
is_leap y = eqb (y % 400) 0 || (eqb (y % 4) 0 && not (eqb (y % 100) 0))

-- how many days a month of a year has; 0 for a number that is no month
unfoldable pub days_in : ℕ → ℕ → ℕ
days_in y m = get_or (0 ∷ 31 ∷ cond (is_leap y) 29 28 ∷ 31 ∷ 30 ∷ 31 ∷ 30 ∷ 31 ∷ 31 ∷ 30 ∷ 31 ∷ 30 ∷ 31 ∷ []) m 0

unfoldable pub is_day : List ℕ → Bool
is_day s = leb 1 (two_at s 8) && leb (two_at s 8) (days_in (two_at s 0 * 100 + two_at s 2) (two_at s 5))

unfoldable pub is_time : List ℕ → Bool
is_time s = leb (two_at s 11) 23 && (leb (two_at s 14) 59 && leb (two_at s 17) 59)

unfoldable pub is_moment : List ℕ → Bool
is_moment s = fits_pattern s (bytes "0000-00-00T00:00:00Z") && (is_day s && is_time s)
