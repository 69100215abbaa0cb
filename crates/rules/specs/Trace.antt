-- A trace as a list of lines: what is asked of a line in its place, and the verdict on all of them. A history of lines is the list of the
-- lines taken, THE NEWEST FIRST.
use Rattle.std.specs.Prelude.{◌≡◌, Bool, true, false, not, ◌&&◌, ◌||◌, cond, List, [], ◌∷◌, ℕ, ◌+◌, eqb, leb, length, Option, None, Some}
use Rattle.text.specs.Lists.{any}
use Rattle.line.specs.declared.reading.Reading.{Reading}
use Rattle.line.specs.declared.reading.Reading.TheVariants.{Version, Comment, TimeScale, Creator, CreationDate, EventLine, Refused}
use Rattle.line.specs.Answer.{Test, test, lowest}
use Rattle.line.specs.Parameter.{is_version, is_version_line, time_scale, is_creator, is_creation_date}
use Rattle.line.specs.Reading.{is_event_line, read_line}
use Rattle.line.specs.Condition.{is_scale, refuses1, refuses3, refuses5, refuses6, refuses7}
use Rattle.bill.specs.Scale.{scale_number}
use Rattle.rules.specs.declared.place.Place.{Place}
use Rattle.rules.specs.Lists.{latest, if_zero}
use Rattle.rules.specs.First.{AllTaken, taken_of, first_refusal}
use Rattle.rules.specs.Event.{Event}
use Rattle.rules.specs.Lines.{event_of_line, events_of}
use Rattle.rules.specs.Verdict.{answer, Accepted}
use Rattle.rules.specs.Limits.{line_limit}

-- ---- what the lines taken say, as the next line needs it

abbrev pub scale_in : Reading → Option ℕ
scale_in Version = None
scale_in Comment = None
scale_in (TimeScale s) = Some (scale_number s)
scale_in Creator = None
scale_in CreationDate = None
scale_in (EventLine e count) = None
scale_in (Refused n) = None

abbrev pub or_zero : Option ℕ → ℕ
or_zero None = 0
or_zero (Some n) = n

abbrev pub is_some : {A : Type 0} → Option A → Bool
is_some None = false
is_some (Some x) = true

-- how many lines were taken, the number of the time scale (0 where there is none yet), and whether a creator, a creation date, an event was given
unfoldable pub place_of : List (List ℕ) → Place
place_of h = record {
  lines = length h;
  scale = or_zero (latest (λ l. scale_in (read_line l)) h);
  creator = any is_creator h;
  date = any is_creation_date h;
  started = any (λ l. is_some (event_of_line l)) h;
}

-- ---- the refusals 1 to 7 of a line in its place, "The lowest number that applies wins"

-- 1: "line too long, byte 10 or 13 inside, or line past the 1,000,000,000th"
unfoldable pub too_much : Place → List ℕ → Bool
too_much p l = leb line_limit p.lines || refuses1 l

-- 2: "first line isn't the version line, or a later line is `#version` or begins with it and a blank"
unfoldable pub version_wrong : Place → List ℕ → Bool
version_wrong p l = cond (eqb p.lines 0) (not (is_version l)) (is_version_line l)

-- 3: "other parameter unknown, malformed, repeated or late"
unfoldable pub parameter_wrong : Place → List ℕ → Bool
parameter_wrong p l =
    refuses3 l
    || ((is_scale (time_scale l) && (not (eqb p.scale 0) || p.started))
    || ((is_creator l && (p.creator || p.started)) || (is_creation_date l && (p.date || p.started))))

-- 4: "event line without a time scale before it"
unfoldable pub unscaled : Place → List ℕ → Bool
unscaled p l = is_event_line l && eqb p.scale 0

-- 5 to 7 are the line's own
unfoldable pub place_tests : Place → List ℕ → List Test
place_tests p l =
    test 1 (too_much p l)
    ∷ test 2 (version_wrong p l)
    ∷ test 3 (parameter_wrong p l)
    ∷ test 4 (unscaled p l)
    ∷ test 5 (refuses5 l)
    ∷ test 6 (refuses6 l)
    ∷ test 7 (refuses7 l)
    ∷ []

unfoldable pub answer_in_place : Place → List ℕ → ℕ
answer_in_place p l = lowest (place_tests p l)

-- ---- the answer to a line after those taken: 8 to 14 for an event line that none of 1 to 7 refuses

-- by the answer to an event after a history of events
module _ (judge : List Event → Event → ℕ) where
  abbrev pub event_answer_by : Option Event → List Event → ℕ
  event_answer_by None es = 0
  event_answer_by (Some e) es = judge es e

  abbrev pub answer_by : List (List ℕ) → List ℕ → ℕ
  answer_by h l = if_zero (answer_in_place (place_of h) l) (event_answer_by (event_of_line l) (events_of h)) (answer_in_place (place_of h) l)

abbrev pub event_answer : Option Event → List Event → ℕ
event_answer = event_answer_by answer

unfoldable pub answer_at : List (List ℕ) → List ℕ → ℕ
answer_at h l = answer_by answer h l

-- ---- the verdict: a number and a line, counted from 1

-- "An empty trace is refusal 2 at line 1. A trace of n taken lines that ends without a scale is refusal 4 at line n + 1."
unfoldable pub at_end : List (List ℕ) → ℕ × ℕ
at_end [] = (2, 1)
at_end (l ∷ h) = cond (eqb (place_of (l ∷ h)).scale 0) (4, length (l ∷ h) + 1) (0, 0)

-- the lines taken, and the first refusal, of a list of lines that came after the history h
abbrev pub taken_lines : List (List ℕ) → List (List ℕ) → List (List ℕ)
taken_lines = taken_of answer_at

abbrev pub refusal_on : List (List ℕ) → List (List ℕ) → ℕ × ℕ
refusal_on = first_refusal answer_at

-- the verdict is the refusal, and that of the end where all lines are taken: by the answer to a line after a history of lines
abbrev pub verdict_by : (List (List ℕ) → List ℕ → ℕ) → List (List ℕ) → List (List ℕ) → ℕ × ℕ
verdict_by judge h ls = if_zero (first_refusal judge h ls).0 (at_end (taken_of judge h ls)) (first_refusal judge h ls)

unfoldable pub verdict_on : List (List ℕ) → List (List ℕ) → ℕ × ℕ
verdict_on h ls = verdict_by answer_at h ls

-- ---- "every line is well formed and in its place": none of 1 to 7 refuses any line of a history

abbrev pub InPlace : List (List ℕ) → Type 0
InPlace = AllTaken (λ h l. answer_in_place (place_of h) l)

-- what demand 2 asks of a whole trace: it has lines, each well formed and in its place, a time scale among them, and events that break no rule
pub record Sound (h : List (List ℕ)) : Type 0 where
  pub in_place : InPlace h
  pub scaled : (place_of h).scale ≡ 0 → ⊥
  pub accepted : Accepted (events_of h)
