-- Document 01's examples with a mark, those of single lines among them, as one statement over one list: each holds by the definitions. By the law
-- `verdict_right` the judge answers so too.
use mathlib.Core.Path.{◌≡◌, ap}
use mathlib.Core.List.{List, [], ◌∷◌, ◌++◌, map}
use Rattle.line.proofs.Examples as lines
use Rattle.rules.specs.Trace.{verdict_on}
use Rattle.rules.proofs.TraceExamples as traces

-- a line by itself, or a trace after those that its prelude gives
pub data Example : Type 0 where
  one_line : lines.Example → Example
  one_trace : traces.Example → Example

abbrev pub Right : Example → Type 0
Right (one_line x) = lines.outcome_of x.line ≡ x.becomes
Right (one_trace x) = verdict_on [] x.lines ≡ x.verdict

abbrev pub marked : List Example
marked = map one_line lines.lines ++ map one_trace traces.examples

-- ---- each of them

abbrev pub All : List Example → Type 0
All [] = Unit {0}
All (x ∷ xs) = Right x × All xs

-- two lists that are equal are so in each place
module _ {A B : Type 0} (f g : A → B) where
  abbrev Each : List A → Type 0
  Each [] = Unit {0}
  Each (x ∷ xs) = (f x ≡ g x) × Each xs

  abbrev first : B → List B → B
  first d [] = d
  first d (y ∷ ys) = y

  abbrev rest : List B → List B
  rest [] = []
  rest (y ∷ ys) = ys

  each : (xs : List A) → map f xs ≡ map g xs → Each xs
  each [] e = tt
  each (x ∷ xs) e = (ap (first (f x)) e, each xs (ap rest e))

all_lines : (xs : List lines.Example) → Each (λ x. lines.outcome_of x.line) (λ x. x.becomes) xs → (more : List Example) → All more →
    All (map one_line xs ++ more)
all_lines [] e more m = m
all_lines (x ∷ xs) e more m = (e.0, all_lines xs e.1 more m)

all_traces : (xs : List traces.Example) → Each (λ x. verdict_on [] x.lines) (λ x. x.verdict) xs → All (map one_trace xs)
all_traces [] e = tt
all_traces (x ∷ xs) e = (e.0, all_traces xs e.1)

pub all_right : All marked
all_right =
    all_lines lines.lines (each (λ x. lines.outcome_of x.line) (λ x. x.becomes) lines.lines lines.examples) (map one_trace traces.examples)
    (all_traces traces.examples (each (λ x. verdict_on [] x.lines) (λ x. x.verdict) traces.examples traces.traces_right))
