-- The classes into which the code sorts events say what the lists of events say, at every type and event.
use mathlib.Core.Path.{◌≡◌, refl, sym}
use mathlib.Core.Bool.{Bool, true, false, not}
use mathlib.Core.List.{List, [], ◌∷◌}
use Prim.Native.Nat.{ℕ, zero, suc, ◌≤◌, ◌<◌}
use native.Mathlib.Omega.{arith}
use lib.ListN.{length, get_or}
use Rattle.text.specs.Lists.{all}
use Rattle.words.specs.declared.kind.Kind.{Kind}
use Rattle.words.specs.declared.kind.Kind.TheVariants.{Stimulus, Task, Interrupt, Runnable, Scheduler, OsEvent, Signal, Semaphore}
use Rattle.words.specs.declared.action.Action.{Action}
use Rattle.words.specs.Code.{waiting}
use Rattle.words.specs.Action.{action_code, actions_of, among, is_of}
use Rattle.words.specs.Class.{no_class, classes, class_at, class_of, class_is_of}
use Rattle.words.proofs.Actions.{actions, every}

-- two tests give the same answer
abbrev pub agree : Bool → Bool → Bool
agree true b = b
agree false b = not b

pub agreed : (a b : Bool) → agree a b ≡ true → a ≡ b
agreed true true e = refl
agreed true false e = cc
agreed false true e = cc
agreed false false e = refl

abbrev right : Kind → Action → Bool
right k a = agree (class_is_of k (class_of a)) (is_of k a)

tested : (k : Kind) → all (right k) actions ≡ true
unfolding actions class_is_of class_at class_of is_of among actions_of action_code
tested Stimulus = refl
tested Task = refl
tested Interrupt = refl
tested Runnable = refl
tested Scheduler = refl
tested OsEvent = refl
tested Signal = refl
tested Semaphore = refl

pub class_is_of_lem : (k : Kind) (a : Action) → class_is_of k (class_of a) ≡ is_of k a
class_is_of_lem k a = agreed _ _ (every (right k) (tested k) a)

-- ---- a number past the last code has no class

past_end : (l : List ℕ) (n d : ℕ) → length l ≤ n → get_or l n d ≡ d
past_end [] n d h = refl
past_end (x ∷ l) zero d h = absurd (omega arith)
past_end (x ∷ l) (suc n) d h = past_end l n d (omega arith)

pub past_classes : (n : ℕ) → waiting < n → no_class ≡ class_at n
unfolding class_at
past_classes n h = sym (past_end classes n no_class (omega arith))
