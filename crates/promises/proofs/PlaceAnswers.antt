-- The answer to a line in its place, 0 to 7. Where it is 0, less than 1,000,000,000 lines came before and the reading of the line is no refusal; so no more
-- lines than that are taken.
use mathlib.Core.Path.{◌≡◌, sym, ap, ◌∙◌}
use mathlib.Core.Bool.{Bool, true, false, not, ◌&&◌, ◌||◌, cond}
use mathlib.Core.List.{List, ◌∷◌, []}
use Prim.Native.Nat.{ℕ, ◌≤◌, ◌<◌}
use native.Mathlib.Omega.{arith}
use lib.Dec.{eqb, leb}
use lib.ListN.{length}
use borrow.Author.Tests.{leb-false}
use Rattle.line.specs.declared.reading.Reading.TheVariants.{Refused}
use Rattle.line.specs.Reading.{read_line}
use Rattle.line.specs.Condition.{is_scale, refuses1, refuses3}
use Rattle.line.proofs.Lowest.{lowest_has}
use Rattle.rules.specs.declared.place.Place.{Place}
use Rattle.rules.specs.Trace.{place_of, too_much, parameter_wrong, place_tests, answer_in_place, InPlace}
use Rattle.rules.proofs.Tests.{neither, clash}
use Rattle.rules.proofs.Told.{Told, tests_of, told_by, told_right}
use Rattle.rules.proofs.Places.{place_none}
use Rattle.rules.specs.Limits.{line_limit}
use Rattle.steps.specs.PlaceCode.{answer_by_reading}
use Rattle.steps.proofs.ByReading.{by_reading_right}

-- ---- 0 to 7

pub place_most : (p : Place) (l : List ℕ) → answer_in_place p l ≤ 7
unfolding answer_in_place place_tests
place_most p l = lowest_has (λ n. n ≤ 7) (place_tests p l) (omega arith) (omega arith)

-- ---- 0

module _ (p : Place) (l : List ℕ) (q : answer_in_place p l ≡ 0) where
  -- the lines before it are few, and it is not too long
  pub few_short : (p.lines < line_limit) × (refuses1 l ≡ false)
  unfolding place_tests too_much
  few_short =
      let k = neither (leb line_limit p.lines) (refuses1 l) ((place_none p l).0 q 1) in
      (leb-false line_limit p.lines k.0, k.1)

  -- it is no unknown parameter
  known_sort : refuses3 l ≡ false
  unfolding place_tests parameter_wrong
  known_sort = (neither (refuses3 l) _ ((place_none p l).0 q 3)).0

  refused_zero : (n : ℕ) → answer_by_reading p (Refused n) ≡ 0 → n ≡ 0
  unfolding answer_by_reading
  refused_zero n e = by_tests (leb line_limit p.lines) (eqb p.lines 0) (eqb n 1) (leb n 3) (eqb p.scale 0) e
    where
      by_tests : (a b d f g : Bool) → cond a 1 (cond b (cond d 1 2) (cond f n (cond g 4 n))) ≡ 0 → n ≡ 0
      by_tests true b d f g e = absurd (omega arith)
      by_tests false true true f g e = absurd (omega arith)
      by_tests false true false f g e = absurd (omega arith)
      by_tests false false d true g e = e
      by_tests false false d false true e = absurd (omega arith)
      by_tests false false d false false e = e

  abbrev no_sort : Told → Bool
  no_sort t = not t.event && not (t.version_line || (t.comment || (is_scale t.scale || (t.creator || t.date))))

  -- its reading is no refusal
  pub not_refused : (n : ℕ) → read_line l ≡ Refused n → ⊥
  unfolding refuses3 tests_of
  not_refused n e =
      let z = refused_zero n (ap (answer_by_reading p) (sym e) ∙ by_reading_right p l ∙ q) in
      let r : tests_of l ≡ told_by (Refused 0) = told_right l few_short.1 ∙ ap told_by (e ∙ ap Refused z) in
      clash (refuses3 l) (ap no_sort r) known_sort

-- ---- at most 1,000,000,000 lines are taken

pub lines_fit : (h : List (List ℕ)) → InPlace h → length h ≤ line_limit
unfolding place_of
lines_fit [] p = omega arith
lines_fit (l ∷ h) p = let k = (few_short (place_of h) l p.0).0 in omega arith
