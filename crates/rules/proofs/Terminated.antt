-- TERMINATED in the charts of processes and runnables, by computed tests over their steps: the steps that leave it are the activations, and of these
-- mtalimitexceeded alone enters it again.
use Rattle.std.proofs.Common.{Option, None, Some}
use mathlib.Core.Path.{◌≡◌, refl, sym, subst, ◌∙◌}
use mathlib.Core.Bool.{Bool, true, false, not, ◌&&◌, ◌||◌, cond, and-true, or-false, beq}
use mathlib.Core.List.{[], ◌∷◌}
use Prim.Native.Nat.{ℕ}
use lib.Dec.{eqb}
use borrow.Author.Tests.{eqb-true, not-true}
use Rattle.text.specs.Lists.{all}
use Rattle.line.specs.Answer.{test, lowest}
use Rattle.rules.specs.Lists.{member}
use Rattle.rules.specs.Words.{task, interrupt, runnable, activate, mtalimitexceeded, start, TERMINATED}
use Rattle.rules.specs.Chart.{Step, leaves, step_for, allowed}
use Rattle.rules.specs.Charts.{is_process, process_chart, runnable_chart, chart_of}
use Rattle.rules.specs.Event.{Event}
use Rattle.rules.specs.Core.{takes, gives, keeps, on_core}
use Rattle.rules.specs.History.{has_instances, activates, reaches}
use Rattle.rules.specs.Refusals.{Known, exceeds_limit, off_chart, never_activated, not_allowed, not_next, core_broken, count_broken}
use Rattle.rules.proofs.Tests.{both, clash}
use Rattle.rules.proofs.CoreWords.{of_member, of_step, beq_true, is_step}

-- ---- the three kinds that have instances

of_kinds : (P : ℕ → Type 0) → P task → P interrupt → P runnable → (k : ℕ) → has_instances k ≡ true → P k
unfolding has_instances is_process
of_kinds P p q r k h = by_test (eqb k task) refl (eqb k interrupt) refl h
  where
    by_test : (a : Bool) → eqb k task ≡ a → (b : Bool) → eqb k interrupt ≡ b → (a || b) || eqb k runnable ≡ true → P k
    by_test true a b i h = subst P (sym (eqb-true k task a)) p
    by_test false a true i h = subst P (sym (eqb-true k interrupt i)) q
    by_test false a false i h = subst P (sym (eqb-true k runnable h)) r

-- ---- the steps

ends : ℕ → Step → Bool
ends k r =
    beq (leaves r TERMINATED) (activates k r.word)
    && (not (activates k r.word) || beq (eqb r.enters TERMINATED) (exceeds_limit k r.word))

charts_end : (k : ℕ) → has_instances k ≡ true → all (ends k) (chart_of k) ≡ true
unfolding ends chart_of is_process process_chart runnable_chart activates exceeds_limit
charts_end = of_kinds (λ k. all (ends k) (chart_of k) ≡ true) refl refl refl

step_ends : (k a : ℕ) (r : Step) → has_instances k ≡ true → step_for (chart_of k) a ≡ Some r →
    (leaves r TERMINATED ≡ activates k a) × (not (activates k a) || beq (eqb r.enters TERMINATED) (exceeds_limit k a) ≡ true)
unfolding ends
step_ends k a r i q =
    let s = of_step (ends k) (chart_of k) (charts_end k i) a r q in
    let t = both (beq (leaves r TERMINATED) (activates k r.word)) _ s.0 in
    subst (λ (w : ℕ). (leaves r TERMINATED ≡ activates k w) × (not (activates k w) || beq (eqb r.enters TERMINATED) (exceeds_limit k w) ≡ true)) (sym s.1)
    (beq_true _ _ t.0, t.1)

-- from TERMINATED an activation is allowed and nothing else
pub from_terminated : (k a : ℕ) → has_instances k ≡ true → is_step (step_for (chart_of k) a) ≡ true → allowed (chart_of k) a (Some TERMINATED) ≡ activates k a
unfolding is_step
from_terminated k a i s = by_step (step_for (chart_of k) a) refl s
  where
    by_step : (o : Option Step) → step_for (chart_of k) a ≡ o → is_step o ≡ true → allowed (chart_of k) a (Some TERMINATED) ≡ activates k a
    by_step None q s = absurd (clash false s refl)
    by_step (Some r) q s = rw q (step_ends k a r i q).0

-- an activation enters TERMINATED exactly if it is mtalimitexceeded
pub enters_terminated : (k a : ℕ) (r : Step) → has_instances k ≡ true → step_for (chart_of k) a ≡ Some r → activates k a ≡ true → eqb r.enters TERMINATED ≡ exceeds_limit k a
enters_terminated k a r i q t = beq_true _ _ (rw t at (step_ends k a r i q).1)

-- which is an activation
pub exceeding_activates : (k a : ℕ) → exceeds_limit k a ≡ true → activates k a ≡ true
unfolding exceeds_limit activates
exceeding_activates k a q = let r = both (is_process k) _ q in rw (r.0, eqb-true a mtalimitexceeded r.1) refl

-- and not on a core
pub activation_off_core : (e : Event) → activates e.kind e.word ≡ true → on_core e ≡ false
unfolding activates on_core takes gives keeps is_process
activation_off_core e t = by_kind (is_process e.kind) refl (eqb e.kind runnable) refl t
  where
    off_core : ℕ → Bool
    off_core a = not (takes a || (gives a || keeps a))

    by_kind : (p : Bool) → is_process e.kind ≡ p → (r : Bool) → eqb e.kind runnable ≡ r →
        (p && member e.word (activate ∷ mtalimitexceeded ∷ [])) || (r && eqb e.word start) ≡ true → p && (takes e.word || (gives e.word || keeps e.word)) ≡ false
    by_kind false p r k t = refl
    by_kind true p true k t = absurd (clash _ p (rw (eqb-true e.kind runnable k) refl))
    by_kind true p false k t = not-true _ (of_member off_core e.word (activate ∷ mtalimitexceeded ∷ []) refl (sym (or-false _) ∙ t))

-- ---- an instance that has terminated, at or above the first number: a judge that does not see it answers 11 as one that does, to what is no activation

module _ (k : Known) (e : Event) (i : has_instances e.kind ≡ true) (s : is_step (step_for (chart_of e.kind) e.word) ≡ true) where
  seen_ended : k.state ≡ Some TERMINATED → not_allowed k e ≡ not (activates e.kind e.word)
  unfolding not_allowed off_chart never_activated
  seen_ended q = rw (q, from_terminated e.kind e.word i s) (or-false (not (activates e.kind e.word)))

  unseen_ended : k.state ≡ None → reaches k.first e.target_instance ≡ true → not_allowed k e ≡ not (activates e.kind e.word)
  unfolding not_allowed off_chart never_activated is_step
  unseen_ended q r = rw (q, i, r) (by_step (step_for (chart_of e.kind) e.word) refl s)
    where
      by_step : (o : Option Step) → step_for (chart_of e.kind) e.word ≡ o → is_step o ≡ true →
          not (allowed (chart_of e.kind) e.word None) || (not (activates e.kind e.word) && true) ≡ not (activates e.kind e.word)
      by_step None p s = absurd (clash false s refl)
      by_step (Some t) p s = rw p (and-true (not (activates e.kind e.word)))

-- ---- the rules after 10: the one that does not see it and the one that does answer alike, since an activation is on no core

abbrev pub later : Known → Event → ℕ
later k e = lowest (test 11 (not_allowed k e) ∷ test 12 (not_next k e) ∷ test 13 (core_broken k e) ∷ test 14 (count_broken k e) ∷ [])

module _ (k l : Known) (e : Event) (i : has_instances e.kind ≡ true) (s : is_step (step_for (chart_of e.kind) e.word) ≡ true) where
  pub ended_alike : k.state ≡ None → l.state ≡ Some TERMINATED → reaches k.first e.target_instance ≡ true → not_next k e ≡ not_next l e → count_broken k e ≡ count_broken l e →
      later k e ≡ later l e
  unfolding core_broken
  ended_alike p q r n c = rw (unseen_ended k e i s p r, seen_ended l e i s q, n, c) (by_test (activates e.kind e.word) refl)
    where
      by_test : (b : Bool) → activates e.kind e.word ≡ b →
          ◌≡◌ {A = ℕ} (cond (not b) 11 (cond (not_next l e) 12 (cond (core_broken k e) 13 (cond (count_broken l e) 14 0))))
          (cond (not b) 11 (cond (not_next l e) 12 (cond (core_broken l e) 13 (cond (count_broken l e) 14 0))))
      by_test true b = rw (activation_off_core e b)
      by_test false b = refl
