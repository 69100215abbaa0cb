-- Lines and chunks fed one after another, and the refusal that is then remembered.
use Rattle.std.specs.Prelude.{◌≡◌, List, [], ◌∷◌, ◌++◌, ℕ}
use Rattle.walk.specs.Lines.{rest_of}
use Rattle.tables.specs.Entry.{verdict_number, verdict_line}
use Rattle.judge.specs.Feed.{Tables, fed_line, fed_chunk}

-- the refusal that the tables remember
abbrev pub remembered_in : Tables → ℕ × ℕ
remembered_in t = (verdict_number t.nums, verdict_line t.nums)

-- line by line, the tables tested at each
unfoldable pub all_fed : Tables → List (List ℕ) → Tables
all_fed t [] = t
all_fed t (l ∷ ls) = all_fed (fed_line t l).left ls

-- chunk by chunk
unfoldable pub chunks_fed : Tables → List (List ℕ) → Tables
chunks_fed t [] = t
chunks_fed t (c ∷ cs) = chunks_fed (fed_chunk t c).left cs

abbrev pub joined : List (List ℕ) → List ℕ
joined [] = []
joined (c ∷ cs) = c ++ joined cs

-- chunks cut at line ends: each ends where a line does
abbrev pub AtLineEnds : List (List ℕ) → Type 0
AtLineEnds [] = Unit {0}
AtLineEnds (c ∷ cs) = (rest_of c ≡ []) × AtLineEnds cs
