-- The verdict on a list of events, and which of them are taken.
use Rattle.std.specs.Prelude.{◌≡◌, Bool, false, List, [], ◌∷◌, ℕ}
use Rattle.rules.specs.First.{AllTaken, taken_of, first_refusal}
use Rattle.rules.specs.Event.{Event}
use Rattle.rules.specs.Refusals.{Known, look, answer_to}

-- the answer to an event after a history
abbrev pub answer : List Event → Event → ℕ
answer h e = answer_to (look h e) e

-- each event of the history was answered 0 after those before it
abbrev pub Accepted : List Event → Type 0
Accepted = AllTaken answer

-- the rule is broken at no event of the history
abbrev pub Never : (Known → Event → Bool) → List Event → Type 0
Never f [] = Unit {0}
Never f (e ∷ h) = (f (look h e) e ≡ false) × Never f h

-- the history after a list of events that came after a history
abbrev pub taken : List Event → List Event → List Event
taken = taken_of answer

-- "verdict: number and line, counted from 1": the first refusal and the place of its event; 0 and 0 where all are taken
abbrev pub verdict : List Event → List Event → ℕ × ℕ
verdict = first_refusal answer
