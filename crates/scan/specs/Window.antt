-- For the code alone: marks for the bytes that no name may have, as weights that are added.
use Rattle.std.specs.Prelude.{ℕ, ◌+◌, ◌*◌, ◌%◌, Bool, not, List, slice_index}
use Rattle.text.specs.Name.{is_name_byte}

-- the byte at an index is none of a name's
unfoldable pub is_mark : List ℕ → ℕ → Bool
is_mark s i = not (is_name_byte (slice_index s i))

-- the sum of eight weights
unfoldable pub eight_from : List ℕ → ℕ → ℕ
eight_from l i =
    slice_index l i + slice_index l (i + 1) + slice_index l (i + 2) + slice_index l (i + 3) + slice_index l (i + 4) + slice_index l (i + 5) + slice_index l (i + 6) + slice_index l (i + 7)

-- eight such sums, each as one byte of a number
unfoldable pub joined_of : List ℕ → ℕ
joined_of l =
    (eight_from l 0 % 256 + eight_from l 8 % 256 * 256 + eight_from l 16 % 256 * 65536 + eight_from l 24 % 256 * 16777216)
    + (eight_from l 32 % 256 + eight_from l 40 % 256 * 256 + eight_from l 48 % 256 * 65536 + eight_from l 56 % 256 * 16777216) * 4294967296
