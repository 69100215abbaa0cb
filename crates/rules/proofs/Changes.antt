-- What one event changes: the state of its own instance and of no other, its first word where it has none yet, and what its own core is and no other.
use Rattle.std.proofs.Common.{Some}
use mathlib.Core.Path.{◌≡◌}
use mathlib.Core.Bool.{true, false}
use mathlib.Core.List.{List, ◌∷◌}
use Prim.Native.Nat.{ℕ}
use Rattle.text.proofs.Words.{same_refl}
use Rattle.rules.specs.Lists.{or_else}
use Rattle.rules.specs.Chart.{step_for, entered}
use Rattle.rules.specs.Charts.{chart_of}
use Rattle.rules.specs.Event.{Event, Instance, same_instance, instance_of, first_word, state_of}
use Rattle.rules.specs.Core.{gives, on_core, on, becomes, core_at}
use Rattle.rules.proofs.Tests.{instance_refl}

pub state_other : (y : Instance) (e : Event) (h : List Event) → same_instance y (instance_of e) ≡ false → state_of y (e ∷ h) ≡ state_of y h
state_other y e h q = rw q

pub state_own : (e : Event) (h : List Event) → state_of (instance_of e) (e ∷ h) ≡ or_else (entered (step_for (chart_of e.kind) e.word)) (state_of (instance_of e) h)
state_own e h = rw (instance_refl (instance_of e))

pub first_other : (y : Instance) (e : Event) (h : List Event) → same_instance y (instance_of e) ≡ false → first_word y (e ∷ h) ≡ first_word y h
first_other y e h q = rw q

pub first_own : (e : Event) (h : List Event) → first_word (instance_of e) (e ∷ h) ≡ or_else (first_word (instance_of e) h) (Some e.word)
first_own e h = rw (instance_refl (instance_of e))

pub core_other : (c : List ℕ) (e : Event) (h : List Event) → on c e ≡ false → core_at c (e ∷ h) ≡ core_at c h
core_other c e h q = rw q

pub core_own : (e : Event) (h : List Event) → on_core e ≡ true → core_at e.source (e ∷ h) ≡ becomes (gives e.word) (instance_of e)
core_own e h o = rw (o, same_refl e.source)
