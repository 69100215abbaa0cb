-- The states of the three charts as the code tests them: one test computed up to the largest state, and a law that turns it into the rule at every number.
use mathlib.Core.Path.{◌≡◌, refl, sym, ◌∙◌}
use mathlib.Core.Bool.{Bool, true, false, not, ◌&&◌, ◌||◌, cond, and-false}
use mathlib.Core.List.{List, []}
use mathlib.Core.Logic.{⊎_elim}
use Prim.Native.Nat.{ℕ, suc, ◌<◌}
use native.Mathlib.Omega.{arith}
use lib.Dec.{eqb, leb}
use borrow.Author.Tests.{lt-leb, ne_eqb}
use Rattle.text.proofs.Bools.{lt_or_ge}
use Rattle.rules.specs.Words.{runnable, semaphore, TERMINATED, RUNNING, PARKING, SUSPENDED, FREE, OVERFULL}
use Rattle.rules.specs.Chart.{Step, is_state_of}
use Rattle.rules.specs.Charts.{is_process, process_chart, runnable_chart, semaphore_chart, chart_of}
use Rattle.rules.specs.History.{has_instances}
use Rattle.rules.proofs.States.{all_up_to, states_up_to, none_above}
use Rattle.ranges.specs.Range.{up_to}
use Rattle.ranges.proofs.UpTo.{up_each}

alike : Bool → Bool → Bool
alike true b = b
alike false b = not b

alike_same : (a b : Bool) → alike a b ≡ true → a ≡ b
unfolding alike
alike_same true b e = sym e
alike_same false true e = e
alike_same false false e = refl

-- a test of numbers that is the chart's at each of them up to its largest state, and passes no number above
same_states : (t : List Step) (m : ℕ) (f : ℕ → Bool) → states_up_to m t ≡ true → up_to (λ s. alike (f s) (is_state_of t s)) (suc m) ≡ true
    → ((s : ℕ) → m < s → f s ≡ false) → (s : ℕ) → f s ≡ is_state_of t s
same_states t m f w e above s =
    ⊎_elim (λ h. above s h ∙ sym (none_above m s h t w)) (λ h. alike_same _ _ (up_each _ (suc m) e s (omega arith))) (lt_or_ge m s)

pub process_states : (s : ℕ) → leb TERMINATED s && leb s PARKING ≡ is_state_of process_chart s
unfolding up_to alike is_state_of process_chart states_up_to all_up_to
process_states = same_states process_chart PARKING _ refl refl (λ s h. rw (lt-leb s PARKING h) (and-false (leb TERMINATED s)))

pub runnable_states : (s : ℕ) → eqb s TERMINATED || (eqb s RUNNING || eqb s SUSPENDED) ≡ is_state_of runnable_chart s
unfolding up_to alike is_state_of runnable_chart states_up_to all_up_to
runnable_states =
    same_states runnable_chart SUSPENDED _ refl refl
    (λ s h. rw (ne_eqb s TERMINATED (λ q. omega arith), ne_eqb s RUNNING (λ q. omega arith), ne_eqb s SUSPENDED (λ q. omega arith)))

pub semaphore_states : (s : ℕ) → leb FREE s && leb s OVERFULL ≡ is_state_of semaphore_chart s
unfolding up_to alike is_state_of semaphore_chart states_up_to all_up_to
semaphore_states = same_states semaphore_chart OVERFULL _ refl refl (λ s h. rw (lt-leb s OVERFULL h) (and-false (leb FREE s)))

-- ---- by kind

module _ (kind state : ℕ) where
  pub of_process : is_process kind ≡ true → has_instances kind && is_state_of (chart_of kind) state ≡ is_state_of process_chart state
  unfolding has_instances chart_of
  of_process p = rw p

  pub of_others : is_process kind ≡ false → has_instances kind && is_state_of (chart_of kind) state ≡ eqb kind runnable && is_state_of runnable_chart state
  unfolding has_instances chart_of
  of_others p = rw p (by_test (eqb kind runnable))
    where
      by_test : (b : Bool) → b && is_state_of (cond b runnable_chart (cond (eqb kind semaphore) semaphore_chart [])) state ≡ b && is_state_of runnable_chart state
      by_test true = refl
      by_test false = refl

pub semaphore_chart_lem : (state : ℕ) → is_state_of (chart_of semaphore) state ≡ is_state_of semaphore_chart state
unfolding chart_of is_process
semaphore_chart_lem state = refl
