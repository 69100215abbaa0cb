-- An answer is at most 14, and so is a refusal; its line is at most the one past the last. So tables that show lines and remember such a refusal are
-- in range.
use Rattle.std.proofs.Common.{Option, None, Some}
use mathlib.Core.Path.{◌≡◌, refl, ap}
use mathlib.Core.List.{List, [], ◌∷◌}
use Prim.Native.Nat.{ℕ, zero, suc, ◌+◌, ◌≤◌}
use native.Mathlib.Omega.{arith}
use lib.ListN.{length}
use Rattle.words.specs.declared.scale.Scale.{Scale}
use Rattle.words.specs.declared.scale.Scale.TheVariants.{Picoseconds, Nanoseconds, Microseconds, Milliseconds, Seconds}
use Rattle.line.specs.declared.reading.Reading.{Reading}
use Rattle.line.specs.declared.reading.Reading.TheVariants.{Version, Comment, TimeScale, Creator, CreationDate, EventLine, Refused}
use Rattle.line.specs.Reading.{read_line}
use Rattle.line.proofs.Lowest.{lowest_has}
use Rattle.bill.specs.Scale.{scale_number}
use Rattle.rules.specs.Limits.{verdict_line_limit, last_refusal}
use Rattle.rules.specs.Lists.{or_else, latest, if_zero}
use Rattle.rules.specs.Event.{Event}
use Rattle.rules.specs.Refusals.{Known, look, event_tests, answer_to}
use Rattle.rules.specs.Lines.{event_of_line, events_of}
use Rattle.rules.specs.Trace.{scale_in, or_zero, place_of, answer_in_place, event_answer, answer_at, refusal_on}
use Rattle.rules.specs.First.{first_refusal}
use Rattle.rules.proofs.Traces.{Kept, kept_next}
use Rattle.rules.specs.declared.place.Place.{Place}
use Rattle.tables.specs.Entry.{verdict_number, verdict_line}
use Rattle.ranges.specs.Range.{table_answer}
use Rattle.ranges.proofs.Valid.{answers}
use Rattle.judge.specs.Feed.{Tables, place_in}
use Rattle.promises.specs.Shown.{Shows}
use Rattle.promises.proofs.Ranges.{in_range}
use Rattle.promises.proofs.PlaceAnswers.{place_most, lines_fit}
use Rattle.promises.proofs.Events.{all_met}

-- ---- 0 or 8 to 14 for an event

event_small : (k : Known) (e : Event) → answer_to k e ≤ last_refusal
unfolding answer_to event_tests
event_small k e = lowest_has (λ n. n ≤ last_refusal) (event_tests k e) (omega arith) (omega arith)

-- ---- a line, and the refusal of a list of lines

answer_small : (h : List (List ℕ)) (l : List ℕ) → answer_at h l ≤ last_refusal
unfolding answer_at
answer_small h l = by_place (answer_in_place (place_of h) l) (omega (arith, place_most (place_of h) l)) (event_of_line l)
  where
    by_place : (n : ℕ) → n ≤ last_refusal → (o : Option Event) → if_zero n (event_answer o (events_of h)) n ≤ last_refusal
    by_place zero p None = p
    by_place zero p (Some e) = event_small (look (events_of h) e) e
    by_place (suc n) p o = p

pub refusal_small : (ls h : List (List ℕ)) → Kept h → ((refusal_on h ls).0 ≤ last_refusal) × ((refusal_on h ls).1 ≤ verdict_line_limit)
unfolding first_refusal
refusal_small [] h k = (omega arith, omega arith)
refusal_small (l ∷ ls) h k = by_answer (answer_at h l) refl (λ q. refusal_small ls (l ∷ h) (kept_next h l k q))
  where
    by_answer : (n : ℕ) → answer_at h l ≡ n → (answer_at h l ≡ 0 → ((refusal_on (l ∷ h) ls).0 ≤ last_refusal) × ((refusal_on (l ∷ h) ls).1 ≤ verdict_line_limit)) →
        ((if_zero n (refusal_on (l ∷ h) ls) (n, length h + 1)).0 ≤ last_refusal) × ((if_zero n (refusal_on (l ∷ h) ls) (n, length h + 1)).1 ≤ verdict_line_limit)
    by_answer zero q f = f q
    by_answer (suc n) q f = let a = answer_small h l in let b = lines_fit h k.in_place in (omega arith, omega arith)

-- ---- the tables

number_small : (c : Scale) → scale_number c ≤ 5
unfolding scale_number
number_small Picoseconds = omega arith
number_small Nanoseconds = omega arith
number_small Microseconds = omega arith
number_small Milliseconds = omega arith
number_small Seconds = omega arith

pub scale_small : (h : List (List ℕ)) → (place_of h).scale ≤ 5
unfolding place_of
scale_small [] = omega arith
scale_small (l ∷ h) = by_reading (read_line l) (scale_small h)
  where
    by_reading : (r : Reading) → (place_of h).scale ≤ 5 → or_zero (or_else (scale_in r) (latest (λ k. scale_in (read_line k)) h)) ≤ 5
    by_reading Version i = i
    by_reading Comment i = i
    by_reading (TimeScale c) i = number_small c
    by_reading Creator i = i
    by_reading CreationDate i = i
    by_reading (EventLine e count) i = i
    by_reading (Refused n) i = i

pub shows_valid : (h : List (List ℕ)) → Kept h → (t : Tables) → Shows h t → verdict_number t.nums ≤ last_refusal → verdict_line t.nums ≤ verdict_line_limit →
    table_answer t.names t.nums t.ticks ≡ 0
unfolding place_in place_of
shows_valid h k t s v w =
    let n = ap (λ (p : Place). p.lines) s.place in
    let c = ap (λ (p : Place). p.scale) s.place in
    answers t.names t.nums t.ticks
    (in_range (events_of h) k.accepted (all_met h) t s.events v w
    (omega (arith, n, lines_fit h k.in_place)) (omega (arith, c, scale_small h)) s.creator s.date)
