-- What becomes of an event line: the rules' answer to it at what the tables say, or that it is taken.
use Rattle.std.specs.Prelude.{cond, List, ℕ, length, Err, Ok, Result}
use Rattle.rules.specs.Lists.{if_zero}
use Rattle.rules.specs.Chart.{step_for}
use Rattle.rules.specs.Charts.{chart_of}
use Rattle.rules.specs.Event.{Event}
use Rattle.rules.specs.Refusals.{answer_to}
use Rattle.steps.specs.Rows.{leads_to}
use Rattle.tables.specs.Sized.{is_sized}
use Rattle.lookup.specs.declared.look.LookedUp.{LookedUp}
use Rattle.lookup.specs.LookedUp.{looked_up}
use Rattle.decide.specs.Known.{state_in, known_by}

-- what becomes of an event line: it is refused, or taken with what was looked up for it and the state that its semaphore or instance enters
abbrev pub Plan : Type 0
Plan = Result (LookedUp × ℕ) ℕ

-- the number of document 01's table that a plan is: that of the refusal, and 0 for a line that is taken
unfoldable pub plan_answer : Plan → ℕ
plan_answer (Err n) = n
plan_answer (Ok (s, state)) = 0

-- the state that the event's semaphore or instance enters
unfoldable pub enters : List ℕ → LookedUp → Event → ℕ
enters nums s e = leads_to (step_for (chart_of e.kind) e.word) (state_in nums s e.kind)

unfoldable pub plan_by : List ℕ → List ℕ → LookedUp → Event → Plan
plan_by nums ticks s e = if_zero (answer_to (known_by nums ticks s e) e) (Ok (s, enters nums s e)) (Err (answer_to (known_by nums ticks s e) e))

-- for tables of the right sizes
unfoldable pub plan_of : List ℕ → List ℕ → List ℕ → Event → Plan
plan_of names nums ticks e = plan_by nums ticks (looked_up names nums e) e

-- 15: "lent output or table of the wrong size"
unfoldable pub decided : List ℕ → List ℕ → List ℕ → Event → Plan
decided names nums ticks e = cond (is_sized (length names) (length nums) (length ticks)) (plan_of names nums ticks e) (Err 15)
