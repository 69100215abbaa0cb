-- The parts of a line that commas separate, and where they stand.
use Rattle.std.specs.Prelude.{ℕ, zero, suc, ◌+◌, ◌-◌, ◌≡◌, Bool, true, false, List, [], leb, length, get_or, take, drop}
use Rattle.std.specs.Borrow.{Bor}
use Rattle.text.specs.Bytes.{find_from}
use Rattle.text.specs.Pieces.{pieces}
use Rattle.fields.specs.declared.part.Commas.{Commas}

-- the parts of a line, which commas separate; a line with no comma is one part
unfoldable pub parts_of : List ℕ → List (List ℕ)
parts_of l = pieces 44 l

-- "Fields count from 1. Any bytes and any field number may be asked; a missing field is an empty part."
unfoldable pub field_of : List ℕ → ℕ → List ℕ
field_of l zero = []
field_of l (suc k) = get_or (parts_of l) k []

-- ---- where the parts stand

-- the bytes from one index to just before another
unfoldable pub part_from : List ℕ → ℕ → ℕ → List ℕ
part_from l from to = take (to - from) (drop from l)

-- the place of the comma after k others; past the end where there is none
unfoldable pub comma_at : List ℕ → ℕ → ℕ
comma_at l zero = find_from 44 l 0
comma_at l (suc k) = find_from 44 l (suc (comma_at l k))

-- where the part after k others starts; past the end where there is none
abbrev pub start_at : List ℕ → ℕ → ℕ
start_at l zero = 0
start_at l (suc k) = suc (comma_at l k)

abbrev pub or_first : Bool → ℕ → ℕ
or_first true a = a
or_first false a = 0

-- where a part is that starts at an index; one that would start past the end is the empty part at the line's start
abbrev pub part_at : List ℕ → ℕ → ℕ
part_at l from = or_first (leb from (length l)) from

-- where a field starts; so a missing one is the empty part at the line's start
unfoldable pub field_at : List ℕ → ℕ → ℕ
field_at l zero = 0
field_at l (suc k) = part_at l (start_at l k)

-- The reference r is the part of a lent slice that starts at an index and has these bytes: it points into the slice's block of memory, so many bytes
-- further. To the machine a part is a pointer and a count of bytes, so one answer is left; only the name that the logic gives r is free.
pub record IsPart (slice : Bor (List ℕ)) (start : ℕ) (part : List ℕ) (r : Bor (List ℕ)) : Type 0 where
  pub block : r.ref_ptr.0 ≡ slice.ref_ptr.0
  pub place : r.ref_ptr.1 ≡ start + slice.ref_ptr.1
  pub bytes : r.now ≡ part

-- "Asking for a field hands back that very part of the caller's line."
abbrev pub IsField : Bor (List ℕ) → ℕ → Bor (List ℕ) → Type 0
IsField line k r = IsPart line (field_at line.now k) (field_of line.now k) r

-- the part of a line that stands after the index a and before the index b
abbrev pub IsBetween : Bor (List ℕ) → ℕ → ℕ → Bor (List ℕ) → Type 0
IsBetween line a b r = IsPart line (part_at line.now (suc a)) (part_from line.now (suc a) b) r

-- the places of the first eight commas
abbrev pub commas_of : List ℕ → Commas
commas_of l = record {
  c1 = comma_at l 0;
  c2 = comma_at l 1;
  c3 = comma_at l 2;
  c4 = comma_at l 3;
  c5 = comma_at l 4;
  c6 = comma_at l 5;
  c7 = comma_at l 6;
  c8 = comma_at l 7;
}
