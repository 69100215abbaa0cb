-- The code's step in a history: its answer is rule 11's, and the state that it leads to is the one that the history then says.
use Rattle.std.proofs.Common.{Some, Option, None}
use mathlib.Core.Path.{◌≡◌, refl, sym, ap, ◌∙◌}
use mathlib.Core.Bool.{Bool, true, false, not, cond}
use mathlib.Core.List.{List, [], ◌∷◌}
use Prim.Native.Nat.{ℕ, zero, suc}
use lib.Dec.{eqb}
use borrow.Author.Tests.{eqb-false}
use Rattle.rules.specs.Lists.{or_else}
use Rattle.rules.specs.Chart.{Step, step_for, entered, allowed}
use Rattle.rules.specs.Charts.{is_process, process_chart, runnable_chart, semaphore_chart, chart_of}
use Rattle.rules.specs.Words.{runnable, semaphore}
use Rattle.rules.specs.Event.{Event, instance_of, state_of}
use Rattle.rules.specs.Refusals.{Known, off_chart}
use Rattle.rules.proofs.Changes.{state_own}
use Rattle.rules.proofs.CoreWords.{is_step}
use Rattle.steps.specs.Rows.{answer_of, opened, leads_to, move_if, move_by, plain}
use Rattle.steps.proofs.Rows.{Enters, enters}

chart_plain : (k : ℕ) → plain (chart_of k) ≡ true
unfolding chart_of plain process_chart runnable_chart semaphore_chart
chart_plain k = by_kind (is_process k) (eqb k runnable) (eqb k semaphore)
  where
    by_kind : (p r s : Bool) → plain (cond p process_chart (cond r runnable_chart (cond s semaphore_chart []))) ≡ true
    by_kind true r s = refl
    by_kind false true s = refl
    by_kind false false true = refl
    by_kind false false false = refl

-- The answer of the code is 11 exactly if the rule 11 is broken.
pub step_answer : (k : Known) (e : Event) (s : ℕ) → k.state ≡ opened s → answer_of (move_by (chart_of e.kind) e.word s) ≡ cond (off_chart k e) 11 0
unfolding move_by off_chart
step_answer k e s q = rw q (by_test (allowed (chart_of e.kind) e.word (opened s)))
  where
    by_test : (b : Bool) → answer_of (move_if b (leads_to (step_for (chart_of e.kind) e.word) s)) ≡ cond (not b) 11 0
    by_test true = refl
    by_test false = refl

opened_more : (n : ℕ) → eqb n 0 ≡ false → opened n ≡ Some n
opened_more zero q = absurd (eqb-false 0 0 q refl)
opened_more (suc n) q = refl

-- Where the word is a step, the state that it leads to is the one after the event, whatever was before.
pub step_taken : (h : List Event) (e : Event) (s : ℕ) → is_step (step_for (chart_of e.kind) e.word) ≡ true →
    opened (leads_to (step_for (chart_of e.kind) e.word) s) ≡ state_of (instance_of e) (e ∷ h)
unfolding is_step
step_taken h e s t =
    by_step (step_for (chart_of e.kind) e.word) t (enters (chart_of e.kind) (chart_plain e.kind) e.word) ∙ sym (state_own e h)
  where
    by_step : (o : Option Step) → is_step o ≡ true → Enters o → opened (leads_to o s) ≡ or_else (entered o) (state_of (instance_of e) h)
    by_step None t w = cc
    by_step (Some r) t w = opened_more r.enters w

-- Where it is allowed, the state that it leads to is the one after the event.
pub step_state : (h : List Event) (e : Event) (s n : ℕ) → opened s ≡ state_of (instance_of e) h → move_by (chart_of e.kind) e.word s ≡ Some n →
    opened n ≡ state_of (instance_of e) (e ∷ h)
unfolding move_by
step_state h e s n q m =
    by_test (allowed (chart_of e.kind) e.word (opened s)) m (by_step (step_for (chart_of e.kind) e.word) (enters (chart_of e.kind) (chart_plain e.kind) e.word))
    ∙ ap (or_else (entered (step_for (chart_of e.kind) e.word))) q
    ∙ sym (state_own e h)
  where
    by_step : (o : Option Step) → Enters o → opened (leads_to o s) ≡ or_else (entered o) (opened s)
    by_step None w = refl
    by_step (Some r) w = opened_more r.enters w

    by_test : (b : Bool) → move_if b (leads_to (step_for (chart_of e.kind) e.word) s) ≡ Some n →
        opened (leads_to (step_for (chart_of e.kind) e.word) s) ≡ or_else (entered (step_for (chart_of e.kind) e.word)) (opened s) →
        opened n ≡ or_else (entered (step_for (chart_of e.kind) e.word)) (opened s)
    by_test true k r = let z : leads_to (step_for (chart_of e.kind) e.word) s ≡ n = cc in ap opened (sym z) ∙ r
    by_test false k r = cc
