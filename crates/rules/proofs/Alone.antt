-- Nobody shares a core: after any accepted history an instance in RUNNING or POLLING holds exactly one core, a held core is held by such an instance,
-- and an instance in another state holds none.
use Rattle.std.proofs.Common.{Option, None, Some}
use mathlib.Core.Path.{◌≡◌, refl, sym, ap, subst, ◌∙◌}
use mathlib.Core.Bool.{Bool, true, false, not, ◌||◌}
use mathlib.Core.List.{List, [], ◌∷◌}
use Prim.Native.Nat.{ℕ}
use native.Mathlib.Omega.{arith}
use borrow.Author.Tests.{not-true}
use Rattle.text.specs.Bytes.{same_bytes}
use Rattle.text.proofs.Words.{same_eq, same_refl}
use Rattle.rules.specs.Lists.{or_else}
use Rattle.rules.specs.Chart.{Step, step_for, entered, allowed, allowed_by}
use Rattle.rules.specs.Charts.{is_process, process_chart, chart_of}
use Rattle.rules.specs.Event.{Event, Instance, same_instance, instance_of, state_of}
use Rattle.rules.specs.Core.{Core, unknown, idle, held, takes, gives, keeps, on_core, becomes, core_at, occupies, Alone}
use Rattle.rules.specs.Core.{Free, free_unknown, free_idle, Own, own_held, own_first}
use Rattle.rules.specs.Verdict.{Accepted}
use Rattle.rules.proofs.Tests.{clash, instance_true, instance_refl}
use Rattle.rules.proofs.Sums.{any_less}
use Rattle.rules.proofs.ChartFact.{on_chart}
use Rattle.rules.proofs.Answers.{Passed, passed}
use Rattle.rules.proofs.Changes.{state_other, state_own, core_other, core_own}
use Rattle.rules.proofs.CoreWords.{enters_core, leaves_core, is_step, takes_only, gives_only, keeps_only, Sort, taker, giver, keeper, sort, on_process}
use Rattle.rules.proofs.CoreRuns.{served_free, served_own}

-- ---- the state of a process event's own instance, before and after

process_chart_lem : (k : ℕ) → is_process k ≡ true → chart_of k ≡ process_chart
unfolding chart_of
process_chart_lem k q = rw q

-- an instance that occupies a core leaves its state only by a word that gives or keeps
leaving : (a : ℕ) (r : Step) (o : Option ℕ) → step_for process_chart a ≡ Some r → allowed_by (Some r) o ≡ true → occupies o ≡ true → gives a || keeps a ≡ true
unfolding occupies
leaving a r None q k b = cc
leaving a r (Some s) q k b = sym (leaves_core a r s q k) ∙ b

module _ (h : List Event) (e : Event) (f : Passed h e) (p : is_process e.kind ≡ true) where
  may : allowed process_chart e.word (state_of (instance_of e) h) ≡ true
  may = subst (λ (t : List Step). allowed t e.word (state_of (instance_of e) h) ≡ true) (process_chart_lem e.kind p) (on_chart h e f.chart)

  own : state_of (instance_of e) (e ∷ h) ≡ or_else (entered (step_for process_chart e.word)) (state_of (instance_of e) h)
  own =
      subst (λ (t : List Step). state_of (instance_of e) (e ∷ h) ≡ or_else (entered (step_for t e.word)) (state_of (instance_of e) h))
      (process_chart_lem e.kind p) (state_own e h)

  was_free : (r : Step) → step_for process_chart e.word ≡ Some r → gives e.word || keeps e.word ≡ false → occupies (state_of (instance_of e) h) ≡ false
  was_free r q g =
      any_less (occupies (state_of (instance_of e) h)) (gives e.word || keeps e.word) (leaving e.word r (state_of (instance_of e) h) q (rw q at may)) g

  is_now : (r : Step) → step_for process_chart e.word ≡ Some r → occupies (state_of (instance_of e) (e ∷ h)) ≡ takes e.word || keeps e.word
  is_now r q = ap occupies (own ∙ rw q) ∙ enters_core e.word r q

  -- an event that is not on a core changes nothing
  not_on_core : on_core e ≡ false → occupies (state_of (instance_of e) (e ∷ h)) ≡ occupies (state_of (instance_of e) h)
  unfolding on_core
  not_on_core q = by_step (step_for process_chart e.word) refl (no_word (takes e.word) (gives e.word) (keeps e.word) (rw p at q))
    where
      no_word : (t g k : Bool) → t || (g || k) ≡ false → (t ≡ false) × (g ≡ false) × (k ≡ false)
      no_word true g k q = (q, cc, cc)
      no_word false true k q = (refl, q, cc)
      no_word false false k q = (refl, refl, q)

      by_step : (o : Option Step) → step_for process_chart e.word ≡ o → (takes e.word ≡ false) × (gives e.word ≡ false) × (keeps e.word ≡ false) →
          occupies (state_of (instance_of e) (e ∷ h)) ≡ occupies (state_of (instance_of e) h)
      by_step None k w = ap occupies (own ∙ rw k)
      by_step (Some r) k w = is_now r k ∙ rw (w.0, w.2) (sym (was_free r k (rw (w.1, w.2))))

  -- a word that takes finds its instance on no core
  was_off : takes e.word ≡ true → occupies (state_of (instance_of e) h) ≡ false
  unfolding is_step
  was_off t = by_step (step_for process_chart e.word) refl (takes_only e.word t)
    where
      by_step : (s : Option Step) → step_for process_chart e.word ≡ s → (gives e.word ≡ false) × (keeps e.word ≡ false) × (is_step (step_for process_chart e.word) ≡ true) →
          occupies (state_of (instance_of e) h) ≡ false
      by_step None k w = let z = w.2 in cc
      by_step (Some r) k w = was_free r k (rw (w.0, w.1))

  -- an event on a core leaves its instance on a core exactly if it does not give it
  on_a_core : Sort e.word → occupies (state_of (instance_of e) (e ∷ h)) ≡ not (gives e.word)
  unfolding is_step
  on_a_core s = by_step (step_for process_chart e.word) refl s
    where
      by_step : (o : Option Step) → step_for process_chart e.word ≡ o → Sort e.word → occupies (state_of (instance_of e) (e ∷ h)) ≡ not (gives e.word)
      by_step None k (taker t g) = let w = (takes_only e.word t).2 in cc
      by_step None k (giver g t) = let w = (gives_only e.word g).2 in cc
      by_step None k (keeper u t g) = let w = (keeps_only e.word u).2 in cc
      by_step (Some r) k (taker t g) = is_now r k ∙ rw (t, g)
      by_step (Some r) k (giver g t) = is_now r k ∙ rw ((gives_only e.word g).0, (gives_only e.word g).1, g)
      by_step (Some r) k (keeper u t g) = is_now r k ∙ rw (t, u, g)

-- ---- the event's core and instance before it: the instance is on no core and nobody holds the core, or it holds this one

data Before (h : List Event) (e : Event) : Type 0 where
  off : occupies (state_of (instance_of e) h) ≡ false → ((y : Instance) → core_at e.source h ≡ held y → ⊥) → Before h e
  mine : core_at e.source h ≡ held (instance_of e) → Before h e

unknown_free : (y : Instance) → unknown ≡ held y → ⊥
unknown_free y q = let z : ◌≡◌ {A = ℕ} 0 1 = cc in omega arith

idle_free : (y : Instance) → idle ≡ held y → ⊥
idle_free y q = let z : ◌≡◌ {A = ℕ} 0 1 = cc in omega arith

free_not_held : {k : Core} → Free k → (y : Instance) → k ≡ held y → ⊥
free_not_held free_unknown y q = unknown_free y q
free_not_held free_idle y q = idle_free y q

before : (h : List Event) (e : Event) → Passed h e → on_core e ≡ true → Sort e.word → Before h e
unfolding occupies
before h e f o s = by_sort s
  where
    by_own : (k : Core) → core_at e.source h ≡ k → Own h (instance_of e) k → Before h e
    by_own k q own_held = mine q
    by_own k q (own_first n) = off (ap occupies n) (λ y r. unknown_free y (sym q ∙ r))

    by_sort : Sort e.word → Before h e
    by_sort (taker t g) = off (was_off h e f (on_process e o) t) (free_not_held (served_free h e f.core o t))
    by_sort (giver g t) = by_own (core_at e.source h) refl (served_own h e f.core o t)
    by_sort (keeper k t g) = by_own (core_at e.source h) refl (served_own h e f.core o t)

-- ---- the step

becomes_held : (b : Bool) (x y : Instance) → becomes b x ≡ held y → (x ≡ y) × (b ≡ false)
becomes_held true x y q = absurd (idle_free y q)
becomes_held false x y q = (cc, refl)

-- an event on a core
module _ (h : List Event) (e : Event) (o : on_core e ≡ true) (b : Before h e) (now : occupies (state_of (instance_of e) (e ∷ h)) ≡ not (gives e.word)) (s : Alone h) where
  -- its instance holds no other core
  no_other : (c : List ℕ) → core_at c h ≡ held (instance_of e) → same_bytes c e.source ≡ false → ⊥
  no_other c q f = by_case b
    where
      by_case : Before h e → ⊥
      by_case (off w n) = clash (occupies (state_of (instance_of e) h)) (s.holder_occupies c (instance_of e) q).1 w
      by_case (mine m) = clash (same_bytes c e.source) (rw (s.one_core (instance_of e) c e.source q m) (same_refl e.source)) f

  -- and nobody else holds this one
  nobody_else : (y : Instance) → core_at e.source h ≡ held y → same_instance y (instance_of e) ≡ false → ⊥
  nobody_else y q f = by_case b
    where
      by_case : Before h e → ⊥
      by_case (off w n) = n y q
      by_case (mine m) = clash (same_instance y (instance_of e)) (let z : y ≡ instance_of e = cc in rw z (instance_refl (instance_of e))) f

  here : (c : List ℕ) (y : Instance) → same_bytes c e.source ≡ true → core_at c (e ∷ h) ≡ held y → (instance_of e ≡ y) × (gives e.word ≡ false)
  here c y t q = becomes_held (gives e.word) (instance_of e) y (sym (core_own e h o) ∙ ap (λ (d : List ℕ). core_at d (e ∷ h)) (sym (same_eq c e.source t)) ∙ q)

  there : (c : List ℕ) → same_bytes c e.source ≡ false → core_at c (e ∷ h) ≡ core_at c h
  there c f = core_other c e h (rw (o, f))

  step_holder : (c : List ℕ) (y : Instance) → core_at c (e ∷ h) ≡ held y → (is_process y.kind ≡ true) × (occupies (state_of y (e ∷ h)) ≡ true)
  step_holder c y q = by_test (same_bytes c e.source) refl (same_instance y (instance_of e)) refl
    where
      by_test : (t : Bool) → same_bytes c e.source ≡ t → (u : Bool) → same_instance y (instance_of e) ≡ u →
          (is_process y.kind ≡ true) × (occupies (state_of y (e ∷ h)) ≡ true)
      by_test true t u v =
          let w = here c y t q in
          subst (λ (z : Instance). (is_process z.kind ≡ true) × (occupies (state_of z (e ∷ h)) ≡ true)) w.0 (on_process e o, now ∙ ap not w.1)
      by_test false t true v = absurd (no_other c (sym (there c t) ∙ q ∙ ap held (instance_true y (instance_of e) v)) t)
      by_test false t false v = let w = s.holder_occupies c y (sym (there c t) ∙ q) in (w.0, ap occupies (state_other y e h v) ∙ w.1)

  step_occupier : (y : Instance) → is_process y.kind ≡ true → occupies (state_of y (e ∷ h)) ≡ true → (c : List ℕ) × (core_at c (e ∷ h) ≡ held y)
  step_occupier y p q = by_test (same_instance y (instance_of e)) refl
    where
      moved : (c : List ℕ) → core_at c h ≡ held y → same_instance y (instance_of e) ≡ false → (t : Bool) → same_bytes c e.source ≡ t → core_at c (e ∷ h) ≡ held y
      moved c k v true t = absurd (nobody_else y (ap (λ (d : List ℕ). core_at d h) (sym (same_eq c e.source t)) ∙ k) v)
      moved c k v false t = there c t ∙ k

      by_test : (u : Bool) → same_instance y (instance_of e) ≡ u → (c : List ℕ) × (core_at c (e ∷ h) ≡ held y)
      by_test true v =
          let z = instance_true y (instance_of e) v in
          let g : gives e.word ≡ false = not-true (gives e.word) (sym now ∙ subst (λ (w : Instance). occupies (state_of w (e ∷ h)) ≡ true) z q) in
          (e.source, core_own e h o ∙ ap (λ (t : Bool). becomes t (instance_of e)) g ∙ ap held (sym z))
      by_test false v =
          let w = s.occupier_holds y p (sym (ap occupies (state_other y e h v)) ∙ q) in
          (w.0, moved w.0 w.1 v (same_bytes w.0 e.source) refl)

  step_one : (y : Instance) (c d : List ℕ) → core_at c (e ∷ h) ≡ held y → core_at d (e ∷ h) ≡ held y → c ≡ d
  step_one y c d p q = by_test (same_bytes c e.source) refl (same_bytes d e.source) refl
    where
      by_test : (t : Bool) → same_bytes c e.source ≡ t → (u : Bool) → same_bytes d e.source ≡ u → c ≡ d
      by_test true t true u = same_eq c e.source t ∙ sym (same_eq d e.source u)
      by_test true t false u = absurd (no_other d (sym (there d u) ∙ q ∙ ap held (sym (here c y t p).0)) u)
      by_test false t true u = absurd (no_other c (sym (there c t) ∙ p ∙ ap held (sym (here d y u q).0)) t)
      by_test false t false u = s.one_core y c d (sym (there c t) ∙ p) (sym (there d u) ∙ q)

  step_on_core : Alone (e ∷ h)
  step_on_core = record { holder_occupies = step_holder; occupier_holds = step_occupier; one_core = step_one }

-- an event on no core
module _ (h : List Event) (e : Event) (o : on_core e ≡ false) (f : Passed h e) (s : Alone h) where
  no_move : (c : List ℕ) → core_at c (e ∷ h) ≡ core_at c h
  no_move c = core_other c e h (rw o)

  no_change : (y : Instance) → is_process y.kind ≡ true → occupies (state_of y (e ∷ h)) ≡ occupies (state_of y h)
  no_change y p = by_test (same_instance y (instance_of e)) refl
    where
      by_test : (u : Bool) → same_instance y (instance_of e) ≡ u → occupies (state_of y (e ∷ h)) ≡ occupies (state_of y h)
      by_test true v =
          let z = instance_true y (instance_of e) v in
          subst (λ (w : Instance). occupies (state_of w (e ∷ h)) ≡ occupies (state_of w h)) (sym z)
          (not_on_core h e f (subst (λ (w : Instance). is_process w.kind ≡ true) z p) o)
      by_test false v = ap occupies (state_other y e h v)

  step_on_none : Alone (e ∷ h)
  step_on_none = record {
    holder_occupies = λ c x q. let w = s.holder_occupies c x (sym (no_move c) ∙ q) in (w.0, no_change x w.0 ∙ w.1);
    occupier_holds = λ x p q. let w = s.occupier_holds x p (sym (no_change x p) ∙ q) in (w.0, no_move w.0 ∙ w.1);
    one_core = λ x c d p q. s.one_core x c d (sym (no_move c) ∙ p) (sym (no_move d) ∙ q);
  }

pub alone : (h : List Event) → Accepted h → Alone h
unfolding occupies
alone [] a = record {
  holder_occupies = λ c x q. absurd (unknown_free x q);
  occupier_holds = λ x p q. absurd (clash false q refl);
  one_core = λ x c d p q. absurd (unknown_free x p);
}
alone (e ∷ h) a = by_test (on_core e) refl (passed h e a.0) (alone h a.1)
  where
    by_test : (b : Bool) → on_core e ≡ b → Passed h e → Alone h → Alone (e ∷ h)
    by_test true o f s = step_on_core h e o (before h e f o (sort e o)) (on_a_core h e f (on_process e o) (sort e o)) s
    by_test false o f s = step_on_none h e o f s
