-- Activations, of processes and runnables: whose they are, that they are steps of a chart, and what an instance has that begins with one. And what the first and the
-- last of a list tell of each other.
use Rattle.std.proofs.Common.{Option, None, Some}
use mathlib.Core.Path.{◌≡◌, refl, sym, ap, subst, ◌∙◌}
use mathlib.Core.Bool.{Bool, true, false, ◌&&◌, ◌||◌, and-true}
use mathlib.Core.List.{List, [], ◌∷◌}
use Prim.Native.Nat.{ℕ, ◌≤◌}
use native.Mathlib.Omega.{arith}
use lib.Dec.{eqb, leb}
use borrow.Author.Tests.{eqb-true, eq-eqb, leb-true, le-leb}
use Rattle.text.specs.Bytes.{same_bytes}
use Rattle.text.proofs.Words.{same_eq, same_refl, eq_same}
use Rattle.rules.specs.Lists.{member, when, or_else, latest, earliest}
use Rattle.rules.specs.Words.{runnable, activate, mtalimitexceeded, start}
use Rattle.rules.specs.Chart.{Step, step_for, entered}
use Rattle.rules.specs.Charts.{is_process, process_chart, runnable_chart, chart_of}
use Rattle.rules.specs.Event.{Event, Instance, same_instance, instance_of, words_of, first_word, state_of}
use Rattle.rules.specs.History.{has_instances, activates, numbers, first_number, is_from}
use Rattle.rules.specs.Refusals.{unseen}
use Rattle.rules.proofs.Tests.{both, clash, instance_true}
use Rattle.rules.proofs.Changes.{first_other, first_own}
use Rattle.rules.proofs.CoreWords.{of_member, is_step}

-- ---- lists

module _ {A B : Type 0} (f : A → Option B) where
  pub none_earlier : (xs : List A) → latest f xs ≡ None → earliest f xs ≡ None
  none_earlier [] q = refl
  none_earlier (x ∷ xs) q = by_first (f x) q (none_earlier xs)
    where
      by_first : (o : Option B) → or_else o (latest f xs) ≡ None → (latest f xs ≡ None → earliest f xs ≡ None) → or_else (earliest f xs) o ≡ None
      by_first None q i = rw (i q)
      by_first (Some b) q i = cc

  pub none_later : (xs : List A) → earliest f xs ≡ None → latest f xs ≡ None
  none_later [] q = refl
  none_later (x ∷ xs) q = by_rest (earliest f xs) q refl (none_later xs)
    where
      by_rest : (o : Option B) → or_else o (f x) ≡ None → earliest f xs ≡ o → (earliest f xs ≡ None → latest f xs ≡ None) → or_else (f x) (latest f xs) ≡ None
      by_rest None q e i = rw (q, i e)
      by_rest (Some b) q e i = cc

  -- where no element has an answer, the first one has none
  last_none : (xs : List A) (x : A) → earliest Some xs ≡ Some x → latest f xs ≡ None → f x ≡ None
  last_none [] x q n = cc
  last_none (y ∷ ys) x q n = by_rest (earliest Some ys) refl q (f y) refl n (last_none ys x)
    where
      by_rest : (o : Option A) → earliest Some ys ≡ o → or_else o (Some y) ≡ Some x → (p : Option B) → f y ≡ p → or_else p (latest f ys) ≡ None →
          (earliest Some ys ≡ Some x → latest f ys ≡ None → f x ≡ None) → f x ≡ None
      by_rest o e q (Some b) g n i = cc
      by_rest (Some z) e q None g n i = i (e ∙ q) n
      by_rest None e q None g n i = let s : y ≡ x = cc in subst (λ (z : A). f z ≡ None) s g

pub no_value : {A : Type 0} {x : A} → Some x ≡ None → ⊥
no_value q = let z : ◌≡◌ {A = ℕ} 0 1 = cc in omega arith

-- ---- activations

-- an activation is a process's or a runnable's, and a step of its chart
pub activates_instances : (k a : ℕ) → activates k a ≡ true → has_instances k ≡ true
unfolding activates has_instances
activates_instances k a = by_test (is_process k) (member a (activate ∷ mtalimitexceeded ∷ [])) (eqb k runnable) (eqb a start)
  where
    by_test : (p m r s : Bool) → (p && m) || (r && s) ≡ true → p || r ≡ true
    by_test true m r s q = refl
    by_test false m true s q = refl
    by_test false m false s q = q

pub activation_step : (k a : ℕ) → activates k a ≡ true → is_step (step_for (chart_of k) a) ≡ true
unfolding activates is_step chart_of is_process process_chart runnable_chart
activation_step k a = by_kind (is_process k && member a (activate ∷ mtalimitexceeded ∷ [])) refl
  where
    by_kind : (b : Bool) → is_process k && member a (activate ∷ mtalimitexceeded ∷ []) ≡ b → b || (eqb k runnable && eqb a start) ≡ true →
        is_step (step_for (chart_of k) a) ≡ true
    by_kind true p q =
        let r = both (is_process k) _ p in
        rw r.0 (of_member (λ w. is_step (step_for process_chart w)) a (activate ∷ mtalimitexceeded ∷ []) refl r.1)
    by_kind false p q = let r = both (eqb k runnable) (eqb a start) q in rw (eqb-true k runnable r.0, eqb-true a start r.1) refl

-- an activation is one of its own process or runnable
pub own_activation : (e : Event) → numbers e.kind e.target e ≡ activates e.kind e.word
unfolding numbers
own_activation e = rw (eq-eqb e.kind e.kind refl, same_refl e.target) (and-true (activates e.kind e.word))

pub record Numbers (k : ℕ) (n : List ℕ) (e : Event) : Type 0 where
  pub activation : activates e.kind e.word ≡ true
  pub of_kind : k ≡ e.kind
  pub of_name : n ≡ e.target

pub what_numbers : (k : ℕ) (n : List ℕ) (e : Event) → numbers k n e ≡ true → Numbers k n e
unfolding numbers
what_numbers k n e q =
    let r = both (activates e.kind e.word) _ q in
    let s = both (eqb k e.kind) (same_bytes n e.target) r.1 in
    record { activation = r.0; of_kind = eqb-true k e.kind s.0; of_name = same_eq n e.target s.1 }

-- and an instance from a number on is one of its own
pub record From (k : ℕ) (n : List ℕ) (i : ℕ) (x : Instance) : Type 0 where
  pub of_kind : k ≡ x.kind
  pub of_name : n ≡ x.name
  pub high : i ≤ x.number

pub is_from_lem : (k : ℕ) (n : List ℕ) (i : ℕ) (x : Instance) → From k n i x → is_from k n i x ≡ true
unfolding is_from
is_from_lem k n i x f = rw (eq-eqb k x.kind f.of_kind, eq_same n x.name f.of_name) (le-leb i x.number f.high)

pub what_from : (k : ℕ) (n : List ℕ) (i : ℕ) (x : Instance) → is_from k n i x ≡ true → From k n i x
unfolding is_from
what_from k n i x q =
    let r = both (eqb k x.kind) _ q in
    let s = both (same_bytes n x.name) (leb i x.number) r.1 in
    record { of_kind = eqb-true k x.kind r.0; of_name = same_eq n x.name s.0; high = leb-true i x.number s.1 }

-- a first number is a process's or a runnable's
pub numbered_instances : (h : List Event) (k : ℕ) (n : List ℕ) (f : ℕ) → first_number k n h ≡ Some f → has_instances k ≡ true
unfolding first_number
numbered_instances [] k n f q = absurd (no_value (sym q))
numbered_instances (e ∷ h) k n f q = by_rest (first_number k n h) refl q (numbered_instances h k n)
  where
    by_test : (t : Bool) → numbers k n e ≡ t → when t e.target_instance ≡ Some f → has_instances k ≡ true
    by_test true t q = let r = what_numbers k n e t in rw r.of_kind (activates_instances e.kind e.word r.activation)
    by_test false t q = absurd (no_value (sym q))

    by_rest : (o : Option ℕ) → first_number k n h ≡ o → or_else o (when (numbers k n e) e.target_instance) ≡ Some f →
        ((g : ℕ) → first_number k n h ≡ Some g → has_instances k ≡ true) → has_instances k ≡ true
    by_rest (Some g) p q i = i g p
    by_rest None p q i = by_test (numbers k n e) refl q

-- ---- an instance that begins with an activation

-- its process or runnable has a first number
pub begun_numbered : (h : List Event) (x : Instance) (a : ℕ) → first_word x h ≡ Some a → activates x.kind a ≡ true → first_number x.kind x.name h ≡ None → ⊥
unfolding first_number
begun_numbered [] x a w s q = no_value (sym w)
begun_numbered (e ∷ h) x a w s q = by_rest (first_number x.kind x.name h) refl q (λ v. begun_numbered h x a v s)
  where
    Before : Type 0
    Before = first_word x h ≡ Some a → first_number x.kind x.name h ≡ None → ⊥

    word : (o : Option ℕ) → first_word (instance_of e) h ≡ o → or_else o (Some e.word) ≡ Some a → x ≡ instance_of e →
        first_number x.kind x.name h ≡ None → when (numbers x.kind x.name e) e.target_instance ≡ None → Before → ⊥
    word (Some b) p v z f n i = i (ap (λ (y : Instance). first_word y h) z ∙ p ∙ v) f
    word None p v z f n i =
        let t : e.word ≡ a = cc in
        let act : activates e.kind e.word ≡ true = rw t (subst (λ (y : Instance). activates y.kind a ≡ true) z s) in
        let m : when (numbers e.kind e.target e) e.target_instance ≡ None =
        subst (λ (y : Instance). when (numbers y.kind y.name e) e.target_instance ≡ None) z n in
        no_value (ap (λ (b : Bool). when b e.target_instance) (sym (own_activation e ∙ act)) ∙ m)

    by_instance : (b : Bool) → same_instance x (instance_of e) ≡ b → first_number x.kind x.name h ≡ None →
        when (numbers x.kind x.name e) e.target_instance ≡ None → Before → ⊥
    by_instance true p f n i =
        let z = instance_true x (instance_of e) p in
        word (first_word (instance_of e) h) refl (sym (first_own e h) ∙ ap (λ (y : Instance). first_word y (e ∷ h)) (sym z) ∙ w) z f n i
    by_instance false p f n i = i (sym (first_other x e h p) ∙ w) f

    by_rest : (o : Option ℕ) → first_number x.kind x.name h ≡ o → or_else o (when (numbers x.kind x.name e) e.target_instance) ≡ None → Before → ⊥
    by_rest None f n i = by_instance (same_instance x (instance_of e)) refl f n i
    by_rest (Some g) f n i = no_value n

-- and it has a state
pub begun_stated : (h : List Event) (x : Instance) (a : ℕ) → first_word x h ≡ Some a → activates x.kind a ≡ true → unseen (state_of x h) ≡ true → ⊥
unfolding is_step
begun_stated h x a w s u = by_state (state_of x h) refl u
  where
    no_step : (o : Option Step) → entered o ≡ None → is_step o ≡ true → ⊥
    no_step None q t = clash false t refl
    no_step (Some r) q t = no_value q

    by_state : (o : Option ℕ) → state_of x h ≡ o → unseen o ≡ true → ⊥
    by_state None q u =
        no_step (step_for (chart_of x.kind) a) (last_none (λ b. entered (step_for (chart_of x.kind) b)) (words_of x h) a w q) (activation_step x.kind a s)
    by_state (Some m) q u = clash false u refl
