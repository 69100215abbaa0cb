-- For the code alone: what it answers to a chart step, for any chart, and how it searches the rows of one. What is to be believed is the chart (rules/specs/Chart, Charts)
-- and rule 11; the theorems `step_answer` and `step_state` (proofs/Steps) say that the answer is theirs, and `moves` (proofs/Rows) that the rows say the same.
use Rattle.std.specs.Prelude.{Bool, true, false, not, ◌&&◌, ◌||◌, cond, List, [], ◌∷◌, ℕ, zero, suc, eqb, get_or, None, Some, Option}
use Rattle.rules.specs.Chart.{Step, step_for, allowed}

-- the answer of each case: 11 is "chart step not allowed"
abbrev pub answer_of : Option ℕ → ℕ
answer_of (Some n) = 0
answer_of None = 11

-- a state as it is stored: 0 before the first chart event
abbrev pub opened : ℕ → Option ℕ
opened zero = None
opened (suc n) = Some (suc n)

-- the state that a word leads to; where the chart has no step for it, the same
abbrev pub leads_to : Option Step → ℕ → ℕ
leads_to None s = s
leads_to (Some r) s = r.enters

abbrev pub move_if : Bool → ℕ → Option ℕ
move_if true n = Some n
move_if false n = None

-- and None where the chart does not allow the word in the state s
unfoldable pub move_by : List Step → ℕ → ℕ → Option ℕ
move_by t a s = move_if (allowed t a (opened s)) (leads_to (step_for t a) s)

-- ---- the rows of a chart as numbers: word, state left, state entered. A step that leaves several states has a row for each.

abbrev pub rows_for : ℕ → List ℕ → ℕ → List (List ℕ) → List (List ℕ)
rows_for a [] n rest = rest
rows_for a (s ∷ ss) n rest = (a ∷ s ∷ n ∷ []) ∷ rows_for a ss n rest

unfoldable pub flat : List Step → List (List ℕ)
flat [] = []
flat (r ∷ rs) = rows_for r.word (r.first ∷ r.others) r.enters (flat rs)

-- the row is one for the word a in the state s; 0 is any state
unfoldable pub row_serves : List ℕ → ℕ → ℕ → Bool
row_serves row a s = eqb a (get_or row 0 0) && (eqb s 0 || eqb s (get_or row 1 0))

-- the state that the first such row enters, 0 where there is none
unfoldable pub entered_in : List (List ℕ) → ℕ → ℕ → ℕ
entered_in [] a s = 0
entered_in (row ∷ rows) a s = cond (row_serves row a s) (get_or row 2 0) (entered_in rows a s)

unfoldable pub move_in : List (List ℕ) → ℕ → ℕ → Option ℕ
move_in rows a s = cond (eqb (entered_in rows a s) 0) (cond (eqb (entered_in rows a 0) 0) (Some s) None) (Some (entered_in rows a s))

-- what a chart needs so that its rows say the same: a word has one step, and no step enters 0
abbrev pub lacks : Option Step → Bool
lacks None = true
lacks (Some r) = false

unfoldable pub plain : List Step → Bool
plain [] = true
plain (r ∷ rs) = (lacks (step_for rs r.word) && not (eqb r.enters 0)) && plain rs
