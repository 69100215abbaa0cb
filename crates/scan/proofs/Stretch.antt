-- Laws of the n bytes from an index on.
use Rattle.std.proofs.Common.{◌≡◌, ℕ, ◌+◌, ◌<◌, ◌≤◌, List, length, get_or, take, drop, arith, length-drop, length-take-le, get_or-drop, get_or-take}

module _ (s : List ℕ) (at n : ℕ) (h : at + n ≤ length s) where
  pub front_length : length (take n (drop at s)) ≡ n
  front_length = length-take-le n (drop at s) (omega (arith, length-drop at s))

  pub front_byte : (i : ℕ) → i < n → get_or (take n (drop at s)) i 0 ≡ get_or s (at + i) 0
  front_byte i k = rw (get_or-take, get_or-drop)
