-- The numbers that the judge gives, over any tables of the right sizes: a line's own refusal is one of 1 to 7, an event's one of 8 to 14, and the answer to
-- a line is the verdict that is remembered after it.
use Rattle.std.proofs.Common.{Err, Ok}
use mathlib.Core.Path.{◌≡◌, refl, ◌∙◌}
use mathlib.Core.Bool.{Bool, true, false, cond}
use mathlib.Core.List.{List, [], ◌∷◌}
use Prim.Native.Nat.{ℕ, zero, suc, ◌≤◌}
use native.Mathlib.Omega.{arith}
use lib.Dec.{eqb, ltb}
use lib.ListN.{length, set}
use borrow.Author.Tests.{eqb-true}
use Rattle.fields.specs.Part.{field_of}
use Rattle.line.specs.declared.reading.Reading.{Reading}
use Rattle.line.specs.declared.reading.Reading.TheVariants.{Version, Comment, TimeScale, Creator, CreationDate, EventLine, Refused}
use Rattle.line.specs.Reading.{read_line}
use Rattle.bill.specs.Scale.{scale_number}
use Rattle.rules.specs.Limits.{last_refusal}
use Rattle.rules.specs.declared.place.Place.{Place}
use Rattle.rules.specs.Event.{Event}
use Rattle.rules.specs.Lines.{event_from}
use Rattle.steps.proofs.ByReading.{by_reading_right}
use Rattle.steps.specs.PlaceCode.{answer_by_reading}
use Rattle.tables.specs.Entry.{nums_size, verdict_index, lines_index, scale_index, creator_index, date_index, started_index, verdict_number}
use Rattle.decide.specs.Decide.{Plan, plan_answer, plan_of}
use Rattle.decide.proofs.Decided.{plan_refuses}
use Rattle.judge.specs.Feed.{Tables, After, after, place_in, remembered, counted, carried, judged_event, judged_reading, judged_in_place, judged_line, judged_lines}
use Rattle.judge.proofs.Sizes.{judged_line_alike}
use Rattle.promises.proofs.Entries.{verdict_number_kept}
use Rattle.promises.proofs.LineEntries.{counted_before, stored_before, remembered_number}
use Rattle.promises.proofs.PlaceAnswers.{place_most}

-- ---- 0 to 7 for a line in its place, and 8 to 14 for its event

by_reading_most : (p : Place) (l : List ℕ) → answer_by_reading p (read_line l) ≤ 7
by_reading_most p l = rw (by_reading_right p l) (place_most p l)

plan_most : (names nums ticks : List ℕ) (e : Event) → plan_answer (plan_of names nums ticks e) ≤ last_refusal
plan_most names nums ticks e = by_number (plan_answer (plan_of names nums ticks e)) (plan_refuses names nums ticks e)
  where
    by_number : (n : ℕ) → (1 ≤ n → (8 ≤ n) × (n ≤ last_refusal)) → n ≤ last_refusal
    by_number zero f = omega arith
    by_number (suc n) f = (f (omega arith)).1

-- ---- one line

-- the answer is at most 14, and it is remembered: 0 stands for no refusal
pub record AnswerKept (x : After) : Type 0 where
  pub most : x.answer ≤ last_refusal
  pub kept : verdict_number x.left.nums ≡ x.answer

module _ (t : Tables) (z : length t.nums ≡ nums_size) where
  refusal_numbered : (n : ℕ) → n ≤ last_refusal → AnswerKept (after n t.names (remembered t.nums n) t.ticks)
  refusal_numbered n m = record { most = m; kept = remembered_number t.nums n z }

  module _ (v : verdict_number t.nums ≡ 0) where
    -- the line is counted, and a parameter's entry may be stored to before
    counted_numbered : AnswerKept (after 0 t.names (counted t.nums) t.ticks)
    counted_numbered = record { most = omega arith; kept = counted_before t.nums verdict_index (omega arith) ∙ v }

    stored_numbered : (k n : ℕ) → ltb lines_index k ≡ true → ltb k started_index ≡ true → AnswerKept (after 0 t.names (counted (set t.nums k n)) t.ticks)
    stored_numbered k n lo hi = record { most = omega arith; kept = stored_before t.nums k n lo hi verdict_index (omega arith) ∙ v }

    carried_numbered : (p : Plan) → plan_answer p ≤ last_refusal → (e : Event) → AnswerKept (carried p t e)
    unfolding plan_answer
    carried_numbered (Err n) m e = refusal_numbered n m
    carried_numbered (Ok (s, state)) m e =
        record { most = omega arith; kept = verdict_number_kept t.nums z s state e ∙ v }

    read_numbered : (r : Reading) (l : List ℕ) → AnswerKept (judged_reading r t l)
    unfolding judged_event
    read_numbered Version l = counted_numbered
    read_numbered Comment l = counted_numbered
    read_numbered (TimeScale s) l = stored_numbered scale_index (scale_number s) refl refl
    read_numbered Creator l = stored_numbered creator_index 1 refl refl
    read_numbered CreationDate l = stored_numbered date_index 1 refl refl
    read_numbered (EventLine e count) l =
        let event = event_from e (field_of l 2) (field_of l 5) count in
        carried_numbered (plan_of t.names t.nums t.ticks event) (plan_most t.names t.nums t.ticks event) event
    read_numbered (Refused n) l = record { most = omega arith; kept = v }

    in_place_numbered : (n : ℕ) → n ≤ 7 → (l : List ℕ) → AnswerKept (judged_in_place n t l)
    unfolding judged_in_place
    in_place_numbered zero m l = read_numbered (read_line l) l
    in_place_numbered (suc n) m l = refusal_numbered (suc n) (omega arith)

  pub judged_numbered : verdict_number t.nums ≤ last_refusal → (l : List ℕ) → AnswerKept (judged_line t l)
  unfolding judged_line
  judged_numbered m l = by_verdict (eqb (verdict_number t.nums) 0) refl
    where
      p : Place
      p = place_in t.nums

      by_verdict : (b : Bool) → eqb (verdict_number t.nums) 0 ≡ b →
          AnswerKept (cond b (judged_in_place (answer_by_reading p (read_line l)) t l) (after (verdict_number t.nums) t.names t.nums t.ticks))
      by_verdict true q = in_place_numbered (eqb-true (verdict_number t.nums) 0 q) (answer_by_reading p (read_line l)) (by_reading_most p l) l
      by_verdict false q = record { most = m; kept = refl }

-- ---- many lines

pub lines_most : (t : Tables) → length t.nums ≡ nums_size → verdict_number t.nums ≤ last_refusal → (ls : List (List ℕ)) →
    verdict_number (judged_lines t ls).nums ≤ last_refusal
unfolding judged_lines
lines_most t z m [] = m
lines_most t z m (l ∷ ls) =
    let x = judged_numbered t z m l in
    lines_most (judged_line t l).left ((judged_line_alike t l).nums_kept ∙ z) (rw x.kept x.most) ls
