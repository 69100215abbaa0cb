-- An instance was seen exactly if it has a first word, and exactly if it is listed; and where the words of all events before are steps of their charts, exactly
-- if it has a state.
use Rattle.std.proofs.Common.{Option, None, Some}
use mathlib.Core.Path.{◌≡◌, refl, sym, ap, subst, ◌∙◌}
use mathlib.Core.Bool.{Bool, true, false, not, ◌||◌, cond, or-true, or-false}
use mathlib.Core.List.{List, [], ◌∷◌}
use Prim.Native.Nat.{ℕ}
use lib.Dec.{eqb}
use borrow.Author.Tests.{eqb-true, not-false}
use Rattle.text.specs.Lists.{any}
use Rattle.rules.specs.Lists.{keep, or_else, latest, earliest, add_all}
use Rattle.rules.specs.Words.{semaphore}
use Rattle.rules.specs.Chart.{Step, step_for, entered}
use Rattle.rules.specs.Charts.{is_process, chart_of}
use Rattle.rules.specs.Event.{Event, Instance, same_instance, instance_of, words_of, first_word, state_of}
use Rattle.rules.specs.History.{has_instances, instances}
use Rattle.rules.specs.Refusals.{unseen}
use Rattle.rules.proofs.Tests.{clash, instance_true, instance_refl}
use Rattle.rules.proofs.Sums.{any_new}
use Rattle.rules.proofs.Changes.{state_other, state_own, first_other, first_own}
use Rattle.rules.proofs.CoreWords.{is_step}
use Rattle.rules.proofs.Activations.{no_value}

-- the instance of a line that is not a semaphore's has the line's number
pub own_number : (e : Event) → has_instances e.kind ≡ true → (instance_of e).number ≡ e.target_instance
unfolding has_instances is_process
own_number e i = by_test (eqb e.kind semaphore) refl
  where
    by_test : (b : Bool) → eqb e.kind semaphore ≡ b → cond b 0 e.target_instance ≡ e.target_instance
    by_test true q = absurd (clash (has_instances e.kind) i (rw (eqb-true e.kind semaphore q)))
    by_test false q = refl

-- ---- listed

now_first : (o : Option ℕ) (w : ℕ) → unseen (or_else o (Some w)) ≡ false
now_first None w = refl
now_first (Some a) w = refl

pub first_listed : (h : List Event) (x : Instance) → has_instances x.kind ≡ true → unseen (first_word x h) ≡ not (any (same_instance x) (instances h))
unfolding instances
first_listed [] x k = refl
first_listed (e ∷ h) x k = by_instance (same_instance x (instance_of e)) refl (has_instances e.kind) refl (first_listed h x k)
  where
    added : any (same_instance x) (add_all same_instance (instances h) (instance_of e ∷ [])) ≡ any (same_instance x) (instances h) || same_instance x (instance_of e)
    added = any_new same_instance instance_true instance_refl (instances h) (instance_of e) x

    by_instance : (b : Bool) → same_instance x (instance_of e) ≡ b → (t : Bool) → has_instances e.kind ≡ t →
        unseen (first_word x h) ≡ not (any (same_instance x) (instances h)) →
        unseen (first_word x (e ∷ h)) ≡ not (any (same_instance x) (add_all same_instance (instances h) (keep t (instance_of e) [])))
    by_instance true q true t i =
        ap (λ (y : Instance). unseen (first_word y (e ∷ h))) (instance_true x (instance_of e) q)
        ∙ ap unseen (first_own e h)
        ∙ now_first (first_word (instance_of e) h) e.word
        ∙ sym (ap not (added ∙ ap (λ (b : Bool). any (same_instance x) (instances h) || b) q ∙ or-true (any (same_instance x) (instances h))))
    by_instance true q false t i = absurd (clash (has_instances e.kind) (ap (λ (y : Instance). has_instances y.kind) (sym (instance_true x (instance_of e) q)) ∙ k) t)
    by_instance false q true t i =
        ap unseen (first_other x e h q)
        ∙ i
        ∙ sym (ap not (added ∙ ap (λ (b : Bool). any (same_instance x) (instances h) || b) q ∙ or-false (any (same_instance x) (instances h))))
    by_instance false q false t i = ap unseen (first_other x e h q) ∙ i

-- ---- in a state

-- an instance with no word has no state
pub wordless : (h : List Event) (x : Instance) → first_word x h ≡ None → state_of x h ≡ None
wordless h x n = by_words (words_of x h) n
  where
    by_words : (ws : List ℕ) → earliest Some ws ≡ None → latest (λ a. entered (step_for (chart_of x.kind) a)) ws ≡ None
    by_words [] q = refl
    by_words (w ∷ ws) q = by_rest (earliest Some ws) q
      where
        by_rest : (o : Option ℕ) → or_else o (Some w) ≡ None → latest (λ a. entered (step_for (chart_of x.kind) a)) (w ∷ ws) ≡ None
        by_rest None q = absurd (no_value q)
        by_rest (Some b) q = absurd (no_value q)

-- so one that has a state is listed
pub stated_listed : (h : List Event) (x : Instance) → has_instances x.kind ≡ true → unseen (state_of x h) ≡ false → any (same_instance x) (instances h) ≡ true
stated_listed h x k s = by_word (first_word x h) refl (first_listed h x k)
  where
    by_word : (o : Option ℕ) → first_word x h ≡ o → unseen o ≡ not (any (same_instance x) (instances h)) → any (same_instance x) (instances h) ≡ true
    by_word None q l = absurd (clash true refl (rw (wordless h x q) at s))
    by_word (Some a) q l = not-false _ (sym l)

-- the word of a T, I or R event is a step of its chart
abbrev pub OneWorded : Event → Type 0
OneWorded e = has_instances e.kind ≡ true → is_step (step_for (chart_of e.kind) e.word) ≡ true

abbrev pub Worded : List Event → Type 0
Worded [] = Unit {0}
Worded (e ∷ h) = OneWorded e × Worded h

now_stated : (o : Option Step) (s : Option ℕ) → is_step o ≡ true → unseen (or_else (entered o) s) ≡ false
unfolding is_step
now_stated None s q = cc
now_stated (Some r) s q = refl

stated_first : (h : List Event) → Worded h → (x : Instance) → has_instances x.kind ≡ true → unseen (state_of x h) ≡ unseen (first_word x h)
stated_first [] w x k = refl
stated_first (e ∷ h) w x k = by_instance (same_instance x (instance_of e)) refl (stated_first h w.1 x k)
  where
    by_instance : (b : Bool) → same_instance x (instance_of e) ≡ b → unseen (state_of x h) ≡ unseen (first_word x h) → unseen (state_of x (e ∷ h)) ≡ unseen (first_word x (e ∷ h))
    by_instance true q i =
        let z = instance_true x (instance_of e) q in
        subst (λ (y : Instance). unseen (state_of y (e ∷ h)) ≡ unseen (first_word y (e ∷ h))) (sym z)
        (ap unseen (state_own e h)
        ∙ now_stated (step_for (chart_of e.kind) e.word) (state_of (instance_of e) h) (w.0 (subst (λ (y : Instance). has_instances y.kind ≡ true) z k))
        ∙ sym (ap unseen (first_own e h) ∙ now_first (first_word (instance_of e) h) e.word))
    by_instance false q i = ap unseen (state_other x e h q) ∙ i ∙ sym (ap unseen (first_other x e h q))

pub first_seen : (h : List Event) → Worded h → (x : Instance) → has_instances x.kind ≡ true → unseen (state_of x h) ≡ not (any (same_instance x) (instances h))
first_seen h w x k = stated_first h w x k ∙ first_listed h x k
