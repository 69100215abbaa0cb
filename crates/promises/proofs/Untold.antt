-- A name without a kind: no line told anything of it, so there is no number, no count and no state of it.
use Rattle.std.proofs.Common.{Option, None, Some}
use mathlib.Core.Path.{◌≡◌, refl, subst, ◌∙◌}
use mathlib.Core.Bool.{Bool, true, false, ◌&&◌}
use mathlib.Core.List.{List, [], ◌∷◌}
use Prim.Native.Nat.{ℕ}
use native.Mathlib.Omega.{arith}
use lib.Dec.{eqb}
use Rattle.text.specs.Bytes.{same_bytes}
use Rattle.text.proofs.Bools.{is_false}
use Rattle.text.proofs.Words.{same_refl, eq_same}
use Rattle.rules.specs.Lists.{when, or_else, latest}
use Rattle.rules.specs.Words.{core, semaphore}
use Rattle.rules.specs.Event.{Event, Instance, same_instance, instance_of, state_of}
use Rattle.rules.specs.Core.{on}
use Rattle.rules.specs.History.{is_tracked, kind_in, kind_of, numbers, last_number, first_number, last_count}
use Rattle.rules.proofs.Tests.{both, and_true, clash, instance_true}
use Rattle.rules.proofs.Changes.{state_other}
use Rattle.rules.proofs.Activations.{activates_instances, none_earlier, what_numbers}
use Rattle.promises.proofs.KindTests.{instances_range, instances_tracked, semaphore_tracked}

-- ---- nothing was told

neither_some : {A : Type 0} (o p : Option A) → or_else o p ≡ None → (o ≡ None) × (p ≡ None)
neither_some None p q = (refl, q)
neither_some (Some x) p q = (q, cc)

-- the event is of the name n
abbrev of : List ℕ → Event → Bool
of n e = is_tracked e.kind && same_bytes n e.target

not_of : (n : List ℕ) (e : Event) → kind_in n e ≡ None → of n e ≡ false
unfolding kind_in
not_of n e = by_test (of n e)
  where
    by_test : (b : Bool) → or_else (when b e.kind) (when (on n e) core) ≡ None → b ≡ false
    by_test true q = cc
    by_test false q = refl

untold : {B : Type 0} (n : List ℕ) (f : Event → Option B) → ((e : Event) → of n e ≡ false → f e ≡ None) → (h : List Event) → kind_of n h ≡ None →
    latest f h ≡ None
untold n f g [] q = refl
untold n f g (e ∷ h) q = let p = neither_some (kind_in n e) (kind_of n h) q in rw (g e (not_of n e p.0)) (untold n f g h p.1)

-- what is told of the name n is told by its own events
abbrev implied : Bool → Bool → Type 0
implied a b = a ≡ true → b ≡ true

unless : {B : Type 0} (a b : Bool) (x : B) → implied a b → b ≡ false → when a x ≡ None
unless true b x f q = absurd (clash b (f refl) q)
unless false b x f q = refl

pub no_number : (k : ℕ) (n : List ℕ) (h : List Event) → kind_of n h ≡ None → last_number k n h ≡ None
unfolding last_number
no_number k n = untold n _ (λ e. unless (numbers k n e) (of n e) e.target_instance (own e))
  where
    own : (e : Event) → implied (numbers k n e) (of n e)
    own e q =
        let r = what_numbers k n e q in
        and_true _ _ (instances_tracked e.kind (activates_instances e.kind e.word r.activation)) (eq_same n e.target r.of_name)

pub no_first_number : (k : ℕ) (n : List ℕ) (h : List Event) → kind_of n h ≡ None → first_number k n h ≡ None
unfolding last_number first_number
no_first_number k n h q = none_earlier (λ e. when (numbers k n e) e.target_instance) h (no_number k n h q)

-- a core is given none
pub core_unnumbered : (n : List ℕ) (h : List Event) → last_number core n h ≡ None
unfolding last_number
core_unnumbered n [] = refl
core_unnumbered n (e ∷ h) = rw (never e) (core_unnumbered n h)
  where
    never : (d : Event) → numbers core n d ≡ false
    never d =
        is_false _ (λ q.
        let w = what_numbers core n d q in
        let r = instances_range d.kind (activates_instances d.kind d.word w.activation) in
        omega (arith, w.of_kind))

pub no_count : (n : List ℕ) (h : List Event) → kind_of n h ≡ None → last_count n h ≡ None
unfolding last_count
no_count n = untold n _ (λ e. unless (eqb e.kind semaphore && same_bytes n e.target) (of n e) e.count (own e))
  where
    own : (e : Event) → implied (eqb e.kind semaphore && same_bytes n e.target) (of n e)
    own e q = let p = both (eqb e.kind semaphore) (same_bytes n e.target) q in and_true _ _ (semaphore_tracked e.kind p.0) p.1

pub no_state : (x : Instance) → is_tracked x.kind ≡ true → (h : List Event) → kind_of x.name h ≡ None → state_of x h ≡ None
no_state x t [] q = refl
no_state x t (e ∷ h) q =
    let p = neither_some (kind_in x.name e) (kind_of x.name h) q in
    state_other x e h (by_test (same_instance x (instance_of e)) refl (not_of x.name e p.0)) ∙ no_state x t h p.1
  where
    by_test : (b : Bool) → same_instance x (instance_of e) ≡ b → of x.name e ≡ false → b ≡ false
    by_test false u w = refl
    by_test true u w =
        let z = instance_true x (instance_of e) u in
        absurd (clash (of x.name e)
        (and_true _ _
        (subst (λ (y : Instance). is_tracked y.kind ≡ true) z t)
        (subst (λ (y : Instance). same_bytes x.name y.name ≡ true) z (same_refl x.name))) w)
