-- Deciding 1 to 7 of a line in its place from its reading, as the code does, gives the lowest of them that applies to the line.
use mathlib.Core.Path.{◌≡◌, refl, sym, ◌∙◌}
use mathlib.Core.Bool.{Bool, true, false, not, ◌&&◌, ◌||◌, cond}
use mathlib.Core.List.{List, [], ◌∷◌}
use Prim.Native.Nat.{ℕ}
use native.Mathlib.Omega.{arith}
use lib.Dec.{eqb, leb}
use borrow.Author.Tests.{eqb-true, leb-true, ne_eqb, le-leb, lt-leb}
use Rattle.line.specs.declared.reading.Reading.{Reading}
use Rattle.line.specs.declared.reading.Reading.TheVariants.{Version, Comment, TimeScale, Creator, CreationDate, EventLine, Refused}
use Rattle.line.specs.Answer.{test, lowest}
use Rattle.line.specs.Reading.{read_line, answer_of}
use Rattle.line.specs.Condition.{refuses1, refuses2, is_scale, refuses3, refuses5, refuses6, refuses7}
use Rattle.line.proofs.Answers.{answer_lowest}
use Rattle.rules.specs.declared.place.Place.{Place}
use Rattle.rules.specs.Trace.{too_much, version_wrong, parameter_wrong, unscaled, place_tests, answer_in_place}
use Rattle.rules.proofs.Told.{Told, tests_of, told_by, told_right}
use Rattle.rules.specs.Limits.{line_limit}
use Rattle.steps.specs.PlaceCode.{first_answer, read_answer, answer_by_reading}

-- ---- the answers, from the tests of the line and the lowest of 5 to 7

abbrev own : List ℕ → ℕ
own l = lowest (test 5 (refuses5 l) ∷ test 6 (refuses6 l) ∷ test 7 (refuses7 l) ∷ [])

abbrev unknown : Told → Bool
unknown t = not t.event && not (t.version_line || (t.comment || (is_scale t.scale || (t.creator || t.date))))

-- what the reader answers to a line that 1 does not refuse
abbrev alone : Told → ℕ → ℕ
alone t low = cond (t.version_line && not t.version) 2 (cond (unknown t) 3 low)

-- what is answered to it in its place, after 2
abbrev from_three : Place → Told → ℕ → ℕ
from_three p t low =
    cond
    (unknown t
    || ((is_scale t.scale && (not (eqb p.scale 0) || p.started))
    || ((t.creator && (p.creator || p.started)) || (t.date && (p.date || p.started)))))
    3
    (cond (t.event && eqb p.scale 0) 4 low)

-- the answer to a first line and to a later one
record Answers (p : Place) (r : Reading) (low : ℕ) : Type 0 where
  first : first_answer r ≡ cond (not (told_by r).version) 2 (from_three p (told_by r) low)
  later : read_answer p r ≡ cond (told_by r).version_line 2 (from_three p (told_by r) low)

three_or_low : (b : Bool) (low : ℕ) → 0 ≡ low → cond b 3 0 ≡ cond (b || false) 3 low
three_or_low true low q = refl
three_or_low false low q = q

module _ (p : Place) (low : ℕ) where
  -- a refused reading is one of 2, 3, and 5 to 7
  refused_answers : (n : ℕ) (two event : Bool) → eqb n 2 ≡ two → leb 4 n ≡ event → n ≡ cond (two && true) 2 (cond (not event && not (two || false)) 3 low) → Answers p (Refused n) low
  refused_answers n true event e f q =
      let k = eqb-true n 2 e in
      record { first = rw (ne_eqb n 1 (λ w. omega arith)); later = rw (e, le-leb n 3 (omega arith)) k }
  refused_answers n false true e f q =
      let k = leb-true 4 n f in
      record { first = rw (ne_eqb n 1 (λ w. omega arith)); later = rw (e, f, lt-leb n 3 (omega arith), q) }
  refused_answers n false false e f q = record { first = rw (ne_eqb n 1 (λ w. omega arith)); later = rw (e, f, le-leb n 3 (omega arith)) q }

  answers : (r : Reading) → answer_of r ≡ alone (told_by r) low → Answers p r low
  unfolding answer_of
  answers Version q = record { first = q; later = refl }
  answers Comment q = record { first = refl; later = q }
  answers (TimeScale s) q = record { first = refl; later = three_or_low (not (eqb p.scale 0) || p.started) low q }
  answers Creator q = record { first = refl; later = three_or_low (p.creator || p.started) low q }
  answers CreationDate q = record { first = refl; later = rw q }
  answers (EventLine e count) q = record { first = refl; later = rw q }
  answers (Refused n) q = refused_answers n (eqb n 2) (leb 4 n) refl refl q

-- ---- any line

in_order : (many first v w : Bool) (f g x : ℕ) → f ≡ cond (not v) 2 x → g ≡ cond w 2 x → cond many 1 (cond first f g) ≡ cond (many || false) 1 (cond (cond first (not v) w) 2 x)
in_order true first v w f g x p q = refl
in_order false true v w f g x p q = p
in_order false false v w f g x p q = q

-- 1 comes before all others
too_long : (p : Place) (l : List ℕ) → refuses1 l ≡ true → answer_by_reading p (read_line l) ≡ answer_in_place p l
unfolding answer_by_reading read_line answer_in_place place_tests too_much refuses1
too_long p l q = rw q (by_count (leb line_limit p.lines) (eqb p.lines 0) _)
  where
    by_count : (many first : Bool) (x : ℕ) → cond many 1 (cond first (first_answer (Refused 1)) (read_answer p (Refused 1))) ≡ cond (many || true) 1 x
    by_count true first x = refl
    by_count false true x = refl
    by_count false false x = refl

-- the line's tests are those that its reading tells
tested : (p : Place) (l : List ℕ) → refuses1 l ≡ false →
    answer_in_place p l
    ≡ cond (leb line_limit p.lines || false) 1
    (cond (cond (eqb p.lines 0) (not (told_by (read_line l)).version) (told_by (read_line l)).version_line) 2 (from_three p (told_by (read_line l)) (own l)))
unfolding answer_in_place place_tests too_much version_wrong parameter_wrong unscaled refuses3 tests_of
tested p l q = rw (← (told_right l q), q)

alone_right : (l : List ℕ) → refuses1 l ≡ false → answer_of (read_line l) ≡ alone (told_by (read_line l)) (own l)
unfolding refuses2 refuses3 tests_of
alone_right l q = answer_lowest l ∙ rw (← (told_right l q), q)

pub by_reading_right : (p : Place) (l : List ℕ) → answer_by_reading p (read_line l) ≡ answer_in_place p l
unfolding answer_by_reading
by_reading_right p l = by_length (refuses1 l) refl
  where
    by_length : (b : Bool) → refuses1 l ≡ b → answer_by_reading p (read_line l) ≡ answer_in_place p l
    by_length true q = too_long p l q
    by_length false q =
        let t = told_by (read_line l) in
        let a = answers p (own l) (read_line l) (alone_right l q) in
        in_order (leb line_limit p.lines) (eqb p.lines 0) t.version t.version_line _ _ _ a.first a.later ∙ sym (tested p l q)
