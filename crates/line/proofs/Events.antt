-- Laws of event lines: what the places of a line's commas tell of its parts is what the definition of an event line asks of them.
use mathlib.Core.Path.{◌≡◌}
use mathlib.Core.List.{List}
use Prim.Native.Nat.{ℕ, suc, ◌≤◌, ◌<◌}
use native.Mathlib.Omega.{arith}
use lib.Dec.{ltb}
use lib.ListN.{length, take}
use Rattle.fields.specs.declared.part.Commas.{Commas}
use Rattle.fields.specs.Part.{part_from, comma_at, commas_of}
use Rattle.fields.proofs.Parts.{comma_grows, field_first, field_place, parts_fit, parts_few, parts_many, parts_eight}
use Rattle.line.specs.declared.reading.Reading.TheVariants.{Refused}
use Rattle.line.specs.Event.{fields_reading, event_reading}
use Rattle.text.proofs.Finds.{find_le}

-- the commas of a line with six of them, one after the other
pub record InOrder (l : List ℕ) (c : Commas) : Type 0 where
  pub second : c.c1 < c.c2
  pub third : c.c2 < c.c3
  pub fourth : c.c3 < c.c4
  pub fifth : c.c4 < c.c5
  pub sixth : c.c5 < c.c6
  pub seventh : c.c6 < c.c7
  pub inside : c.c7 ≤ length l

module _ (l : List ℕ) (c : Commas) (e : c ≡ commas_of l) where
  -- the first field ends in the line
  pub time_ends : c.c1 ≤ length l
  unfolding comma_at
  time_ends = rw e (find_le 44 l 0 (length l) (omega arith) (omega arith))

  pub in_order : c.c6 < length l → InOrder l c
  unfolding comma_at
  in_order h =
      rw e (record {
        second = comma_grows l 0;
        third = comma_grows l 1;
        fourth = comma_grows l 2;
        fifth = comma_grows l 3;
        sixth = comma_grows l 4;
        seventh = comma_grows l 5;
        inside = find_le 44 l (suc (comma_at l 5)) (length l) (omega arith) (rw e at h);
      })

  -- without a sixth comma there are fewer than seven fields
  pub event_few : length l ≤ c.c6 → Refused 5 ≡ event_reading l
  unfolding event_reading
  event_few h = rw (parts_few l (rw e at h))

  -- with an eighth there are more than eight
  pub event_many : c.c8 < length l → Refused 5 ≡ event_reading l
  unfolding event_reading
  event_many h = rw (parts_many l (rw e at h))

  -- else the fields are what stands between the commas, and the note is there where the seventh comma is
  pub event_fields : c.c6 < length l → length l ≤ c.c8
      → fields_reading
      (take c.c1 l)
      (part_from l (suc c.c1) c.c2)
      (part_from l (suc c.c2) c.c3)
      (part_from l (suc c.c3) c.c4)
      (part_from l (suc c.c4) c.c5)
      (part_from l (suc c.c5) c.c6)
      (part_from l (suc c.c6) c.c7)
      (part_from l (suc c.c7) c.c8)
      (ltb c.c7 (length l))
      ≡ event_reading l
  unfolding event_reading
  event_fields h k =
      let few : comma_at l 5 < length l = rw e at h in
      let many : length l ≤ comma_at l 7 = rw e at k in
      rw (e, parts_fit l few many, parts_eight l few many, field_first, field_place l 0, field_place l 1, field_place l 2, field_place l 3, field_place l 4, field_place l 5, field_place l 6)
