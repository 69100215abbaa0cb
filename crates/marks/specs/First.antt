-- A search, for any test.
use Rattle.std.specs.Prelude.{ℕ, zero, suc, ◌+◌, Bool, cond, nat_le, Option, None, Some}

-- how many of n numbers from i on stand before the first that passes the test; n where there is none
unfoldable pub before : (ℕ → Bool) → ℕ → ℕ → ℕ
before f i zero = 0
before f i (suc n) = cond (f i) 0 (suc (before f (suc i) n))

-- the first of n numbers from i on that passes the test
unfoldable pub first_of : (ℕ → Bool) → ℕ → ℕ → Option ℕ
first_of f i n = cond (nat_le n (before f i n)) None (Some (i + before f i n))
