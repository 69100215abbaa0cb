-- The rules on sources, instances and notes: the classes into which the code sorts events say what the lists of events say, and what each
-- rule comes to once its tests are made.
use mathlib.Core.Path.{◌≡◌, refl}
use mathlib.Core.Bool.{Bool, true, ◌&&◌, ◌||◌}
use mathlib.Core.List.{[], ◌∷◌}
use Prim.Native.Nat.{ℕ}
use lib.Dec.{eqb, leb}
use borrow.Author.Tests.{eq-eqb, ne_eqb}
use Rattle.text.specs.Lists.{all}
use Rattle.words.specs.declared.kind.Kind.{Kind}
use Rattle.words.specs.declared.action.Action.{Action}
use Rattle.words.specs.declared.action.Action.TheVariants.{InterruptSuspended, Schedule, SetEvent}
use Rattle.words.specs.Action.{action_code, among}
use Rattle.words.specs.Class.{readying, beginning, interrupt_suspension, scheduling, event_setting, semaphore_state, class_at, class_of}
use Rattle.words.proofs.Actions.{actions, every}
use Rattle.words.proofs.Classes.{agree, agreed}
use Rattle.forms.specs.Rule.{is_process, core_actions, zero_source, is_own, presence, presence_at, presence_broken, note_broken}

-- ---- what the class of an event says

-- two tests that agree at each of the 38 events are one test
same_test : (f g : Action → Bool) → all (λ a. agree (f a) (g a)) actions ≡ true → (a : Action) → f a ≡ g a
same_test f g e a = agreed (f a) (g a) (every (λ b. agree (f b) (g b)) e a)

core_class : (a : Action) → among a core_actions ≡ (leb readying (class_of a) && leb (class_of a) beginning)
unfolding actions class_at class_of among action_code
core_class = same_test (λ a. among a core_actions) (λ a. leb readying (class_of a) && leb (class_of a) beginning) refl

apart_class : (a : Action) → among a (InterruptSuspended ∷ Schedule ∷ []) ≡ (eqb (class_of a) interrupt_suspension || eqb (class_of a) scheduling)
unfolding actions class_at class_of among action_code
apart_class = same_test (λ a. among a (InterruptSuspended ∷ Schedule ∷ [])) (λ a. eqb (class_of a) interrupt_suspension || eqb (class_of a) scheduling) refl

pub source_class : (k : Kind) (a : Action) (c : ℕ) → c ≡ class_of a →
    zero_source k a ≡ ((is_process k && (leb readying c && leb c beginning)) || (eqb c interrupt_suspension || eqb c scheduling))
unfolding zero_source
source_class k a c e = rw (e, core_class a, apart_class a)

own_test : (a : Action) → is_own a ≡ (eqb (class_of a) scheduling || eqb (class_of a) semaphore_state)
unfolding actions class_at class_of is_own among action_code
own_test = same_test is_own (λ a. eqb (class_of a) scheduling || eqb (class_of a) semaphore_state) refl

pub own_class : (a : Action) (c : ℕ) → c ≡ class_of a → is_own a ≡ (eqb c scheduling || eqb c semaphore_state)
own_class a c e = rw e (own_test a)

set_test : (a : Action) → among a (SetEvent ∷ []) ≡ eqb (class_of a) event_setting
unfolding actions class_at class_of among action_code
set_test = same_test (λ a. among a (SetEvent ∷ [])) (λ a. eqb (class_of a) event_setting) refl

-- ---- the presence of a note, at set_event and at any other event

pub note_set : (k : Kind) (a : Action) (n c : ℕ) → c ≡ class_of a → c ≡ event_setting → note_broken k a n ≡ eqb n 0
unfolding note_broken presence
note_set k a n c e h = rw (set_test a, ← e, eq-eqb c event_setting h)

pub note_other : (k : Kind) (a : Action) (n c : ℕ) → c ≡ class_of a → (c ≡ event_setting → ⊥) → note_broken k a n ≡ presence_broken (presence_at k) n
unfolding note_broken presence
note_other k a n c e h = rw (set_test a, ← e, ne_eqb c event_setting h)
