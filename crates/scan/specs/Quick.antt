-- For the code alone: a line told by the places of the first eight bytes that no name may have. What it has to be is in Ahead.
use Rattle.std.specs.Prelude.{◌≡◌, ℕ, zero, suc, ◌+◌, ◌<◌, ◌≤◌, Bool, true, false, cond, ◌&&◌, List, length, ◌==◌, nat_lt, slice_index, None, Some, Option}
use Rattle.marks.specs.declared.two.Marks.{Marks}
use Rattle.marks.specs.Marks.{marks_of, first_mark, rest_marks}
use Rattle.fields.specs.declared.part.Commas.{Commas}
use Rattle.scan.specs.declared.ahead.Ahead.{Ahead}
use Rattle.scan.specs.Window.{is_mark}

-- the marks without the first k
unfoldable pub without : ℕ → Marks → Marks
without zero m = m
without (suc k) m = rest_marks (without k m)

-- how many answers stand before the mark after k others
abbrev pub place_of : Marks → ℕ → ℕ
place_of m k = first_mark (without k m)

-- the places of the first eight marks
unfoldable pub places_of : Marks → Commas
places_of m = record {
  c1 = place_of m 0;
  c2 = place_of m 1;
  c3 = place_of m 2;
  c4 = place_of m 3;
  c5 = place_of m 4;
  c6 = place_of m 5;
  c7 = place_of m 6;
  c8 = place_of m 7;
}

-- those of the 128 bytes from an index on
unfoldable pub places_in : List ℕ → ℕ → Commas
places_in s at = places_of (marks_of (is_mark s) at)

-- c are these places, of bytes that are all there with one more after them, and seven marks are among them
pub record InSight (s : List ℕ) (at : ℕ) (c : Commas) : Type 0 where
  pub long : at + 129 ≤ length s
  pub places : c ≡ places_in s at
  pub seven : c.c7 < 128

-- a comma stands at a place of the line at an index
unfoldable pub is_comma : List ℕ → ℕ → ℕ → Bool
is_comma s at place = slice_index s (at + place) == 44

unfoldable pub are_commas : List ℕ → ℕ → Commas → Bool
are_commas s at c =
    (is_comma s at c.c1 && (is_comma s at c.c2 && is_comma s at c.c3)) && (is_comma s at c.c4 && (is_comma s at c.c5 && is_comma s at c.c6))

-- how many bytes the end of a line has that begins at an index; none where no line ends there
unfoldable pub end_length : List ℕ → ℕ → ℕ
end_length s p = cond (slice_index s p == 10) 1 (cond (slice_index s p == 13 && slice_index s (p + 1) == 10) 2 0)

abbrev pub line_to : ℕ → ℕ → Commas → Option Ahead
line_to end zero c = None
line_to end (suc more) c = Some (record { end = end; start = end + suc more; plain = true; commas = c })

unfoldable pub ends_after : List ℕ → ℕ → ℕ → Commas → Option Ahead
ends_after s at n c = line_to (at + n) (end_length s (at + n)) c

-- the commas of a line that ends at the seventh place
abbrev pub six_of : Commas → Commas
six_of c = record { c1 = c.c1; c2 = c.c2; c3 = c.c3; c4 = c.c4; c5 = c.c5; c6 = c.c6; c7 = c.c7; c8 = c.c7 + 1 }

unfoldable pub after_six : List ℕ → ℕ → Commas → Option Ahead
after_six s at c = cond (is_comma s at c.c7) (cond (nat_lt 127 c.c8) None (ends_after s at c.c8 c)) (ends_after s at c.c7 (six_of c))

-- whether a line is told
abbrev pub told : Option Ahead → Bool
told (Some a) = true
told None = false
