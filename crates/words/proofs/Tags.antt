-- What a match tells in an arm for several events: the tag of the event is one of a list. A tag is the code, and what is so of each of the list is so of it.
use mathlib.Core.Path.{◌≡◌, refl, sym}
use mathlib.Core.Bool.{Bool, true, ◌||◌}
use mathlib.Core.List.{List, [], ◌∷◌}
use mathlib.Core.Logic.{inl, inr}
use Prim.Native.Nat.{ℕ, zero, suc, ◌≤◌}
use native.Mathlib.Omega.{arith}
use lib.Dec.{eqb, leb, ltb}
use borrow.Author.Tests.{eqb-true, leb-true, le-ltb}
use denote.Enum.Declared.{tag_of}
use types.Run.{OneOf}
use Rattle.text.specs.Lists.{all}
use Rattle.text.proofs.Bools.{and_l, and_r}
use Rattle.words.specs.declared.action.Action.{Action}
use Rattle.words.specs.Action.{action_code}
use Rattle.words.specs.contracts.action.Action as declared
use Rattle.words.proofs.Actions.{actions, every}

abbrev is_code : Action → Bool
is_code a = eqb (tag_of declared.the_type a) (action_code a)

tested : all is_code actions ≡ true
unfolding actions action_code
tested = refl

pub tag_code : (a : Action) → tag_of declared.the_type a ≡ action_code a
tag_code a = eqb-true (tag_of declared.the_type a) (action_code a) (every is_code tested a)

-- n codes from k on
abbrev pub codes_from : ℕ → ℕ → List ℕ
codes_from k zero = []
codes_from k (suc n) = k ∷ codes_from (suc k) n

one_of_each : (f : ℕ → Bool) (ks : List ℕ) (x : ℕ) → all f ks ≡ true → OneOf ks x → f x ≡ true
one_of_each f [] x q e = absurd e
one_of_each f (k ∷ []) x q e = rw e (and_l (f k) true q)
one_of_each f (k ∷ j ∷ ks) x q (inl e) = rw e (and_l (f k) (all f (j ∷ ks)) q)
one_of_each f (k ∷ j ∷ ks) x q (inr r) = one_of_each f (j ∷ ks) x (and_r (f k) (all f (j ∷ ks)) q) r

-- a code that is one of those from m on, and one that is so and else one of those below m or k
pub at_least : (m : ℕ) (ks : List ℕ) {x c : ℕ} → all (leb m) ks ≡ true → OneOf ks x → x ≡ c → m ≤ c
at_least m ks {x} q e t = omega (arith, leb-true m x (one_of_each (leb m) ks x q e), t)

pub left_over : (m k : ℕ) (ks : List ℕ) {x c : ℕ} → all (λ j. ltb j m || eqb j k) ks ≡ true → OneOf ks x → x ≡ c → m ≤ c → k ≡ c
left_over m k ks {x} {c} q e t h = sym (eqb-true c k (rw (le-ltb c m h) at (rw t at (one_of_each (λ j. ltb j m || eqb j k) ks x q e))))
