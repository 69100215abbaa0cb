-- Laws of the line as a whole: what `has_break` is by a test of each byte, what the first byte says, and the next line of a chunk.
use Rattle.std.proofs.Common.{None, Some, Option, subst}
use mathlib.Core.Path.{◌≡◌, refl}
use mathlib.Core.Bool.{Bool, true, not, ◌||◌}
use mathlib.Core.List.{List, [], ◌∷◌}
use Prim.Native.Nat.{ℕ, ◌≤◌}
use native.Mathlib.Nat.{suc-ne-zero}
use native.Mathlib.Omega.{arith}
use lib.Dec.{eqb}
use lib.ListN.{length, get_or}
use Rattle.fields.specs.declared.part.Commas.{Commas}
use Rattle.fields.specs.Part.{part_from, commas_of}
use Rattle.scan.specs.Ahead.{line_from}
use Rattle.scan.proofs.Nexts.{line_inside}
use Rattle.std.specs.List.{list_any}
use Rattle.line.specs.declared.reading.Reading.{Reading}
use Rattle.line.specs.declared.reading.NextRead.{NextRead}
use Rattle.line.specs.Reading.{has_break, is_event_line, read_line, split_line, reading_of, next_reading}

-- by a test of each byte
pub any_break : (s : List ℕ) → list_any (λ x. eqb x 10 || eqb x 13) s ≡ has_break s
unfolding has_break
any_break [] = refl
any_break (x ∷ s) = rw (any_break s)

-- the first byte
pub empty_event : (s : List ℕ) → length s ≡ 0 → is_event_line s ≡ true
unfolding is_event_line
empty_event [] e = refl
empty_event (x ∷ s) e = absurd (suc-ne-zero _ e)

pub first_event : (s : List ℕ) → (length s ≡ 0 → ⊥) → is_event_line s ≡ not (eqb (get_or s 0 0) 35)
unfolding is_event_line
first_event [] n = absurd (n refl)
first_event (x ∷ s) n = refl

-- ---- the next line of a chunk, read

pub next_over : (whole : Bool) (s : List ℕ) (at : ℕ) → line_from whole s at ≡ None → None ≡ next_reading whole s at
unfolding next_reading
next_over whole s at q = rw q

pub next_read : (whole : Bool) (s : List ℕ) (at end start : ℕ) (r : Reading) (c : Commas) → line_from whole s at ≡ Some (end, start)
    → r ≡ read_line (part_from s at end) → c ≡ commas_of (part_from s at end) → ◌≡◌ {A = Option NextRead} (Some (record { end = end; start = start; split = record { reading = r; commas = c } })) (next_reading whole s at)
unfolding next_reading
next_read whole s at end start r c q e d = rw (q, e, d)

-- what a caller goes by: the line is the next one, and stands in the chunk
pub record NextIs (whole : Bool) (s : List ℕ) (at : ℕ) (n : NextRead) : Type 0 where
  pub next : line_from whole s at ≡ Some (n.end, n.start)
  pub begins : at ≤ n.end
  pub ends : n.end ≤ length s
  pub said : n.split ≡ split_line (part_from s at n.end)

module _ (whole : Bool) (s : List ℕ) (at : ℕ) where
  line_by : (n : NextRead) (x : Option (ℕ × ℕ)) → line_from whole s at ≡ x → reading_of s at x ≡ Some n → NextIs whole s at n
  line_by n (Some (e, f)) q h =
      let i = line_inside s at e f whole q in
      let w : ◌≡◌ {A = NextRead} (record { end = e; start = f; split = split_line (part_from s at e) }) n = cc in
      subst (NextIs whole s at) w (record { next = q; begins = i.0; ends = i.1; said = refl })
  line_by n None q h = let z : ◌≡◌ {A = ℕ} 0 1 = cc in let no_line : ⊥ = omega arith in absurd no_line

  pub line_next : (n : NextRead) → next_reading whole s at ≡ Some n → NextIs whole s at n
  unfolding next_reading
  line_next n q = line_by n (line_from whole s at) refl q

  over_by : (n : Option (ℕ × ℕ)) → reading_of s at n ≡ None → n ≡ None
  over_by (Some (e, n)) q = cc
  over_by None q = refl

  pub over_next : next_reading whole s at ≡ None → line_from whole s at ≡ None
  unfolding next_reading
  over_next q = over_by (line_from whole s at) q
