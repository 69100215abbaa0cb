-- The lines of a chunk and of a whole trace, and the next line from an index on.
-- "A line ends at byte 10; one byte 13 before it belongs to the end. The last line may lack its end; nothing after a final end isn't a line."
use Rattle.std.specs.Prelude.{ℕ, suc, ◌+◌, ◌-◌, cond, ◌&&◌, List, [], ◌∷◌, ◌++◌, map, eqb, leb, ltb, length, get_or, take, drop, None, Some, Option}
use Rattle.text.specs.Pieces.{pieces, ended, unended, closed}

-- "one byte 13 before it belongs to the end": what a byte 10 ends, without one byte 13 at its end
unfoldable pub line_text : List ℕ → List ℕ
line_text p = cond (eqb (get_or p (length p - 1) 0) 13) (take (length p - 1) p) p

-- "A line ends at byte 10": the lines of a chunk that one ends
unfoldable pub whole_lines : List ℕ → List (List ℕ)
whole_lines s = map line_text (ended (pieces 10 s))

-- what stands after the last byte 10
unfoldable pub rest_of : List ℕ → List ℕ
rest_of s = unended (pieces 10 s)

-- how many bytes the whole lines take with their ends
unfoldable pub used_up : List ℕ → ℕ
used_up s = length (closed 10 (ended (pieces 10 s)))

-- "The last line may lack its end; nothing after a final end isn't a line": a rest is a line as it stands, a byte 13 at its end included
abbrev pub last_line : List ℕ → List (List ℕ)
last_line [] = []
last_line (x ∷ s) = (x ∷ s) ∷ []

-- the lines of a whole trace
unfoldable pub lines_of : List ℕ → List (List ℕ)
lines_of s = whole_lines s ++ last_line (rest_of s)

-- ---- the next line from an index on: where it ends, and where the one after it begins

abbrev pub next_of : List (List ℕ) → ℕ → Option (ℕ × ℕ)
next_of [] at = None
next_of (p ∷ []) at = None
next_of (p ∷ q ∷ ps) at = Some (at + length (line_text p), at + suc (length p))

unfoldable pub next_from : List ℕ → ℕ → Option (ℕ × ℕ)
next_from s at = next_of (pieces 10 (drop at s)) at

-- where the line after the next begins; with no byte 10 left, where the rest does
abbrev pub start_of : Option (ℕ × ℕ) → ℕ → ℕ
start_of (Some (e, n)) at = n
start_of None at = at

unfoldable pub start_from : List ℕ → ℕ → ℕ
start_from s at = start_of (next_from s at) at

-- the line that begins at the first of two places and that the byte just before the second ends; a rest where the chunk has no such byte
unfoldable pub line_between : List ℕ → ℕ → ℕ → Option (ℕ × ℕ)
line_between s at start = cond (ltb at start && leb start (length s)) (Some (at + length (line_text (take (start - 1 - at) (drop at s))), start)) None
