-- What one event adds to the lists of a history: at most its source and its target to the names, and its instance to the instances, and only what was not
-- there. So a name or an instance of the longer history was there before, or it is one that the event added.
use mathlib.Core.Path.{◌≡◌, refl, sym, ◌∙◌}
use mathlib.Core.Bool.{Bool, true, false, not, ◌&&◌, or-true}
use mathlib.Core.List.{List, [], ◌∷◌}
use Prim.Native.Nat.{ℕ}
use Rattle.text.specs.Bytes.{same_bytes}
use Rattle.text.specs.Lists.{any}
use Rattle.text.proofs.Words.{same_eq, same_refl}
use Rattle.rules.specs.Lists.{keep}
use Rattle.rules.specs.Event.{Event, Instance, same_instance, instance_of}
use Rattle.rules.specs.Core.{on_core}
use Rattle.rules.specs.History.{has_instances, is_tracked, named, names, instances}
use Rattle.rules.proofs.Tests.{clash, instance_true, instance_refl}
use Rattle.rules.proofs.Sums.{any_more, any_added}
use Rattle.promises.proofs.Places.{any_keep, any_added_only, let_in}
use Rattle.promises.proofs.Choices.{either_true}

-- ---- what is new

abbrev pub new_source : List Event → Event → Bool
new_source h e = on_core e && not (any (same_bytes e.source) (names h))

abbrev pub new_target : List Event → Event → Bool
new_target h e = is_tracked e.kind && not (any (same_bytes e.target) (names h))

abbrev pub new_instance : List Event → Event → Bool
new_instance h e = has_instances e.kind && not (any (same_instance (instance_of e)) (instances h))

-- ---- where a name or an instance of the longer history comes from

pub data NameFrom (h : List Event) (e : Event) (n : List ℕ) : Type 0 where
  before : any (same_bytes n) (names h) ≡ true → NameFrom h e n
  as_source : new_source h e ≡ true → n ≡ e.source → NameFrom h e n
  as_target : new_target h e ≡ true → n ≡ e.target → NameFrom h e n

pub data InstanceFrom (h : List Event) (e : Event) (x : Instance) : Type 0 where
  before : any (same_instance x) (instances h) ≡ true → InstanceFrom h e x
  as_new : new_instance h e ≡ true → x ≡ instance_of e → InstanceFrom h e x

module _ (h : List Event) (e : Event) where
  pub name_stays : (n : List ℕ) → any (same_bytes n) (names h) ≡ true → any (same_bytes n) (names (e ∷ h)) ≡ true
  unfolding names
  name_stays n = any_more same_bytes (same_bytes n) (names h) (named e)

  added_name : (n : List ℕ) → any (same_bytes n) (named e) ≡ true → any (same_bytes n) (names (e ∷ h)) ≡ true
  unfolding names
  added_name = any_added same_bytes same_eq same_refl (names h) (named e)

  pub source_named : on_core e ≡ true → any (same_bytes e.source) (names (e ∷ h)) ≡ true
  unfolding named
  source_named o = added_name e.source (rw (o, same_refl e.source))

  pub target_named : is_tracked e.kind ≡ true → any (same_bytes e.target) (names (e ∷ h)) ≡ true
  unfolding named
  target_named t =
      added_name e.target
      (any_keep (same_bytes e.target) (on_core e) e.source (keep (is_tracked e.kind) e.target [])
      ∙ rw (t, same_refl e.target) (or-true (on_core e && same_bytes e.target e.source)))

  pub name_from : (n : List ℕ) → any (same_bytes n) (names (e ∷ h)) ≡ true → NameFrom h e n
  unfolding names named
  name_from n q = by_test (any (same_bytes n) (names h)) refl
    where
      F : List ℕ → Bool
      F = same_bytes n

      rest : List (List ℕ)
      rest = keep (is_tracked e.kind) e.target []

      let_in_name : (b : Bool) (m : List ℕ) → any F (names h) ≡ false → b && F m ≡ true → (b && not (any (same_bytes m) (names h)) ≡ true) × (n ≡ m)
      let_in_name b m = let_in same_bytes same_eq same_refl b m (names h) n

      from_rest : any F (names h) ≡ false → any F rest ≡ true → NameFrom h e n
      from_rest a r =
          either_true (is_tracked e.kind && F e.target) false (NameFrom h e n)
          (λ t. let w = let_in_name (is_tracked e.kind) e.target a t in as_target w.0 w.1)
          (λ z. absurd (clash false z refl))
          (sym (any_keep F (is_tracked e.kind) e.target []) ∙ r)

      mentioned : any F (names h) ≡ false → any F (keep (on_core e) e.source rest) ≡ true → NameFrom h e n
      mentioned a m =
          either_true (on_core e && F e.source) (any F rest) (NameFrom h e n)
          (λ o. let w = let_in_name (on_core e) e.source a o in as_source w.0 w.1)
          (from_rest a)
          (sym (any_keep F (on_core e) e.source rest) ∙ m)

      by_test : (b : Bool) → any F (names h) ≡ b → NameFrom h e n
      by_test true a = before a
      by_test false a = mentioned a (any_added_only same_bytes same_eq same_refl (names h) (named e) n q a)

  pub instance_from : (x : Instance) → any (same_instance x) (instances (e ∷ h)) ≡ true → InstanceFrom h e x
  unfolding instances
  instance_from x q = by_test (any (same_instance x) (instances h)) refl
    where
      added : List Instance
      added = keep (has_instances e.kind) (instance_of e) []

      new : any (same_instance x) (instances h) ≡ false → any (same_instance x) added ≡ true → InstanceFrom h e x
      new a r =
          either_true (has_instances e.kind && same_instance x (instance_of e)) false (InstanceFrom h e x)
          (λ t. let w = let_in same_instance instance_true instance_refl (has_instances e.kind) (instance_of e) (instances h) x a t in as_new w.0 w.1)
          (λ z. absurd (clash false z refl))
          (sym (any_keep (same_instance x) (has_instances e.kind) (instance_of e) []) ∙ r)

      by_test : (b : Bool) → any (same_instance x) (instances h) ≡ b → InstanceFrom h e x
      by_test true a = before a
      by_test false a = new a (any_added_only same_instance instance_true instance_refl (instances h) added x q a)
