-- What the numbers of a history get to be that its tables hold: the states of its charts, and its times. And its span, by the two times in the tables.
use mathlib.Core.Path.{◌≡◌, refl, sym}
use mathlib.Core.Bool.{true, ◌||◌, or-true}
use mathlib.Core.List.{List, [], ◌∷◌}
use Prim.Native.Nat.{ℕ, zero, suc, ◌-◌, ◌≤◌}
use native.Mathlib.Omega.{arith}
use lib.Dec.{eqb}
use Rattle.text.specs.Sizes.{max_time}
use Rattle.rules.specs.Chart.{Step, is_state_of, state_after}
use Rattle.rules.specs.Event.{Event}
use Rattle.rules.specs.Verdict.{Accepted}
use Rattle.rules.specs.Sheet.{span}
use Rattle.rules.proofs.States.{state_after_state}
use Rattle.rules.proofs.Totals.{first_le}
use Rattle.steps.specs.Rows.{opened}
use Rattle.tables.specs.Entry.{first_time, last_time}
use Rattle.promises.specs.Shown.{started_of, first_of, last_of, SinglesShown}
use Rattle.promises.proofs.Listed.{AllMet}

-- ---- a state as it is stored: none yet, or one of its chart's

pub stored_state : (t : List Step) (ws : List ℕ) (n : ℕ) → opened n ≡ state_after t ws → eqb n 0 || is_state_of t n ≡ true
stored_state t ws zero q = refl
stored_state t ws (suc n) q = rw (state_after_state t ws (suc n) (sym q)) (or-true (eqb (suc n) 0))

-- ---- times

pub started_one : (h : List Event) → started_of h ≤ 1
started_one [] = omega arith
started_one (e ∷ h) = omega arith

pub first_last : (h : List Event) → Accepted h → first_of h ≤ last_of h
first_last [] a = omega arith
first_last (e ∷ h) a = first_le e h a

pub last_most : (h : List Event) → AllMet h → last_of h ≤ max_time
last_most [] m = omega arith
last_most (e ∷ h) m = m.0.time_size

pub span_most : (h : List Event) → AllMet h → span h ≤ max_time
span_most [] m = omega arith
span_most (e ∷ h) m = omega (arith, m.0.time_size)

-- the span is told by the two times
pub span_shown : (h : List Event) (nums ticks : List ℕ) → SinglesShown h nums ticks → last_time ticks - first_time ticks ≡ span h
span_shown [] nums ticks s = rw (s.last, s.first)
span_shown (e ∷ h) nums ticks s = rw (s.last, s.first)
