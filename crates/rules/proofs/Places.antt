-- A line in its place: 1 to 7 are given exactly where their conditions hold, and what a line that is taken changes of the place.
use mathlib.Core.Path.{◌≡◌, refl, ap}
use mathlib.Core.Bool.{Bool, true, false, ◌||◌}
use mathlib.Core.Logic.{◌↔◌}
use mathlib.Core.List.{List, ◌∷◌}
use Prim.Native.Nat.{ℕ, ◌+◌, ◌<◌}
use native.Mathlib.Numerals.{add-one}
use lib.Dec.{leb}
use lib.ListN.{length}
use Rattle.text.specs.Lists.{any}
use Rattle.line.specs.declared.reading.Reading.{Reading}
use Rattle.line.specs.declared.reading.Reading.TheVariants.{Version, Comment, TimeScale, Creator, CreationDate, EventLine, Refused}
use Rattle.line.specs.Answer.{holds, IsLowest}
use Rattle.line.specs.Parameter.{is_creator, is_creation_date}
use Rattle.line.specs.Reading.{read_line}
use Rattle.line.specs.Condition.{refuses1}
use Rattle.line.proofs.Lowest.{lowest_exactly, lowest_none}
use Rattle.bill.specs.Scale.{scale_number}
use Rattle.rules.specs.declared.place.Place.{Place}
use Rattle.rules.specs.Lists.{latest, or_else}
use Rattle.rules.specs.Lines.{event_in, event_of_line}
use Rattle.rules.specs.Trace.{scale_in, or_zero, is_some, place_of, too_much, place_tests, answer_in_place}
use Rattle.rules.proofs.Tests.{neither}
use Rattle.rules.proofs.Told.{Told, tests_of, told_by, told_right}
use Rattle.rules.specs.Limits.{line_limit}

-- ---- "given exactly when": the conditions of the table, in the order of their numbers

pub place_exactly : (p : Place) (l : List ℕ) (n : ℕ) → 0 < n → (answer_in_place p l ≡ n) ↔ IsLowest (place_tests p l) n
unfolding answer_in_place place_tests
place_exactly p l n pos = lowest_exactly (place_tests p l) refl n pos

pub place_none : (p : Place) (l : List ℕ) → (answer_in_place p l ≡ 0) ↔ ((m : ℕ) → holds m (place_tests p l) ≡ false)
unfolding answer_in_place place_tests
place_none p l = lowest_none (place_tests p l) refl

-- ---- the place after a line

-- one line more: its number, and the time scale, whether a creator, a creation date, an event was given
abbrev one_more : Place → ℕ → Bool → Bool → Bool → Place
one_more p scale creator date started = record { lines = p.lines + 1; scale = scale; creator = creator; date = date; started = started }

abbrev pub next_place : Place → Reading → Place
next_place p Version = one_more p p.scale p.creator p.date p.started
next_place p Comment = one_more p p.scale p.creator p.date p.started
next_place p (TimeScale s) = one_more p (scale_number s) p.creator p.date p.started
next_place p Creator = one_more p p.scale true p.date p.started
next_place p CreationDate = one_more p p.scale p.creator true p.started
next_place p (EventLine e count) = one_more p p.scale p.creator p.date true
next_place p (Refused n) = one_more p p.scale p.creator p.date p.started

-- a line that 1 does not refuse
line_next : (h : List (List ℕ)) (l : List ℕ) → refuses1 l ≡ false → place_of (l ∷ h) ≡ next_place (place_of h) (read_line l)
unfolding place_of event_of_line tests_of
line_next h l q =
    let e = told_right l q in
    rw (ap (λ (t : Told). t.creator) e, ap (λ (t : Told). t.date) e) (by_reading (read_line l))
  where
    by_reading : (r : Reading) →
        record {
          lines = length (l ∷ h);
          scale = or_zero (or_else (scale_in r) (latest (λ k. scale_in (read_line k)) h));
          creator = (told_by r).creator || any is_creator h;
          date = (told_by r).date || any is_creation_date h;
          started = is_some (event_in r l) || any (λ k. is_some (event_of_line k)) h;
        }
        ≡ next_place (place_of h) r
    by_reading Version = rw add-one
    by_reading Comment = rw add-one
    by_reading (TimeScale s) = rw add-one
    by_reading Creator = rw add-one
    by_reading CreationDate = rw add-one
    by_reading (EventLine e count) = rw add-one
    by_reading (Refused n) = rw add-one

-- a line that is well formed and in its place
pub place_next : (h : List (List ℕ)) (l : List ℕ) → answer_in_place (place_of h) l ≡ 0 → place_of (l ∷ h) ≡ next_place (place_of h) (read_line l)
unfolding place_tests too_much
place_next h l q =
    line_next h l (neither (leb line_limit (place_of h).lines) (refuses1 l) ((place_none (place_of h) l).0 q 1)).1
