-- THE CHART FACT, over any table of steps: the test made event by event holds at every event exactly if some start state begins a run through the whole
-- sequence. And what it says of a history: no event was off its chart exactly if each instance's events are such a run.
use Rattle.std.proofs.Common.{Option, None, Some}
use mathlib.Core.Path.{◌≡◌, refl, sym, ap, subst}
use mathlib.Core.Logic.{◌↔◌}
use mathlib.Core.Bool.{Bool, true, false, not}
use mathlib.Core.List.{List, [], ◌∷◌}
use Prim.Native.Nat.{ℕ}
use borrow.Author.Tests.{eq-eqb, not-false}
use Rattle.rules.specs.Lists.{keep, or_else}
use Rattle.rules.specs.Chart.{Step, leaves, step_for, Run, begin, other, next, entered, state_after, allowed, allowed_by, follows}
use Rattle.rules.specs.Charts.{chart_of}
use Rattle.rules.specs.Event.{Event, Instance, same_instance, instance_of, words_of, state_of}
use Rattle.rules.specs.Refusals.{look, off_chart}
use Rattle.rules.specs.Verdict.{Never}
use Rattle.rules.proofs.Tests.{both, and_true, instance_true, instance_refl}

module _ (t : List Step) where
  -- before the first step any state will do; after it the run is in the state that the latest step entered
  Reached : List ℕ → Option ℕ → Type 0
  Reached ws None = (s : ℕ) → Run t s ws s
  Reached ws (Some m) = (s : ℕ) × Run t s ws m

  extend : (a : ℕ) (ws : List ℕ) (p : Option Step) → step_for t a ≡ p → (o : Option ℕ) → Reached ws o → allowed_by p o ≡ true → Reached (a ∷ ws) (or_else (entered p) o)
  unfolding Reached
  extend a ws None q None f k = λ s. other q (f s)
  extend a ws None q (Some m) f k = (f.0, other q f.1)
  extend a ws (Some r) q None f k = (r.first, next {m = r.first} q (rw (eq-eqb r.first r.first refl)) (f r.first))
  extend a ws (Some r) q (Some m) f k = (f.0, next q k f.1)

  reach : (ws : List ℕ) → follows t ws ≡ true → Reached ws (state_after t ws)
  unfolding Reached
  reach [] e = λ s. begin
  reach (a ∷ ws) e =
      let k = both (allowed t a (state_after t ws)) (follows t ws) e in
      extend a ws (step_for t a) refl (state_after t ws) (reach ws k.1) k.0

  some_run : (ws : List ℕ) (o : Option ℕ) → Reached ws o → (s : ℕ) × (n : ℕ) × Run t s ws n
  unfolding Reached
  some_run ws None f = (0, 0, f 0)
  some_run ws (Some m) f = (f.0, m, f.1)

  -- the latest state entered, if there is one, is the one that the run is in
  In : ℕ → Option ℕ → Type 0
  In m None = Unit {0}
  In m (Some k) = k ≡ m

  in_state : {s m : ℕ} {ws : List ℕ} → Run t s ws m → In m (state_after t ws)
  unfolding In
  in_state begin = tt
  in_state (other q p) = rw q (in_state p)
  in_state (next q l p) = rw q refl

  may_leave : (r : Step) (m : ℕ) (o : Option ℕ) → leaves r m ≡ true → In m o → allowed_by (Some r) o ≡ true
  unfolding In
  may_leave r m None l i = refl
  may_leave r m (Some k) l i = subst (λ (n : ℕ). allowed_by (Some r) (Some n) ≡ true) (sym i) l

  run_follows : {s m : ℕ} {ws : List ℕ} → Run t s ws m → follows t ws ≡ true
  run_follows begin = refl
  run_follows (other q p) = rw q (run_follows p)
  run_follows (next {ws} {a} {m} {r} q l p) =
      and_true (allowed t a (state_after t ws)) (follows t ws) (rw q (may_leave r m (state_after t ws) l (in_state p))) (run_follows p)

  pub chart_fact : (ws : List ℕ) → (follows t ws ≡ true) ↔ ((s : ℕ) × (n : ℕ) × Run t s ws n)
  chart_fact ws = (λ e. some_run ws (state_after t ws) (reach ws e), λ r. run_follows r.2)

-- ---- the charts of a history's instances and semaphores

-- an event is on its chart
pub on_chart : (h : List Event) (e : Event) → off_chart (look h e) e ≡ false → allowed (chart_of e.kind) e.word (state_of (instance_of e) h) ≡ true
unfolding off_chart
on_chart h e q = not-false _ q

-- each entity's own test holds all along
Followed : List Event → Type 0
Followed h = (x : Instance) → follows (chart_of x.kind) (words_of x h) ≡ true

never_followed : (h : List Event) → Never off_chart h → Followed h
unfolding Followed
never_followed [] c x = refl
never_followed (e ∷ h) c x = by_instance (same_instance x (instance_of e)) refl (never_followed h c.1 x)
  where
    by_instance : (b : Bool) → same_instance x (instance_of e) ≡ b → follows (chart_of x.kind) (words_of x h) ≡ true →
        follows (chart_of x.kind) (keep b e.word (words_of x h)) ≡ true
    by_instance false q f = f
    by_instance true q f =
        and_true (allowed (chart_of x.kind) e.word (state_of x h)) (follows (chart_of x.kind) (words_of x h))
        (subst (λ (y : Instance). allowed (chart_of y.kind) e.word (state_of y h) ≡ true) (sym (instance_true x (instance_of e) q)) (on_chart h e c.0)) f

followed_never : (h : List Event) → Followed h → Never off_chart h
unfolding Followed off_chart
followed_never [] f = tt
followed_never (e ∷ h) f = (
  newest (same_instance (instance_of e) (instance_of e)) (instance_refl (instance_of e)) (f (instance_of e)),
  followed_never h (λ x. earlier x (same_instance x (instance_of e)) (f x)),
)
  where
    newest : (b : Bool) → b ≡ true → follows (chart_of e.kind) (keep b e.word (words_of (instance_of e) h)) ≡ true → off_chart (look h e) e ≡ false
    newest false q k = cc
    newest true q k =
        ap not (both (allowed (chart_of e.kind) e.word (state_of (instance_of e) h)) (follows (chart_of e.kind) (words_of (instance_of e) h)) k).0

    earlier : (x : Instance) (b : Bool) → follows (chart_of x.kind) (keep b e.word (words_of x h)) ≡ true → follows (chart_of x.kind) (words_of x h) ≡ true
    earlier x false k = k
    earlier x true k = (both (allowed (chart_of x.kind) e.word (state_of x h)) (follows (chart_of x.kind) (words_of x h)) k).1

-- No event was off its chart exactly if each instance's and semaphore's events run through its chart from some state.
pub chart_runs : (h : List Event) → Never off_chart h ↔ ((x : Instance) → (s : ℕ) × (n : ℕ) × Run (chart_of x.kind) s (words_of x h) n)
unfolding Followed
chart_runs h = (
  λ c x. (chart_fact (chart_of x.kind) (words_of x h)).0 (never_followed h c x),
  λ r. followed_never h (λ x. (chart_fact (chart_of x.kind) (words_of x h)).1 (r x)),
)
