-- Where a name is looked for first: "found by a wrapping hash of the name's bytes" (02, No. 11).
use Rattle.std.specs.Prelude.{ℕ, zero, suc, ◌+◌, ◌-◌, ◌*◌, ◌/◌, ◌%◌, ◌^◌, List, length, slice_index}

-- four bytes as one number, the first of them the lowest; past the end of a name there are none, and they count 0
unfoldable pub word : List ℕ → ℕ → ℕ
word s at = slice_index s at + 256 * slice_index s (at + 1) + 65536 * slice_index s (at + 2) + 16777216 * slice_index s (at + 3)

-- "Name bytes folded with wrapping add into a u32": such a number is added, and the sum taken so many times. The factor spreads names that begin alike and end in digits, and others too
-- (docs/SPEED.md).
abbrev pub factor : ℕ
factor = 0x7659_91d1

unfoldable pub step : ℕ → ℕ → ℕ
step h w = factor * (h + w) % 2 ^ 32

-- the first n fours of a name's bytes
unfoldable pub fours : List ℕ → ℕ → ℕ
fours s zero = 0
fours s (suc n) = step (fours s n) (word s (4 * n))

-- fours from the front on as long as a byte is left after them, and at the end the last four, some of which may be folded already
unfoldable pub folded : List ℕ → ℕ
folded s = step (fours s ((length s - 1) / 4)) (word s (length s - 4))

-- "reduced to one of 512 index places": the upper nine bits
unfoldable pub home_of : List ℕ → ℕ
home_of name = folded name / 2 ^ 23
