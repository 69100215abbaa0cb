-- What the bytes of a type and of an event are: bytes that name a thing are its word, the word of a thing names it, and words are short names.
use Rattle.std.proofs.Common.{None, Some, Option, ap}
use mathlib.Core.Path.{◌≡◌, refl, sym, ◌∙◌}
use mathlib.Core.Bool.{Bool, true, false}
use mathlib.Core.List.{List, [], ◌∷◌}
use Prim.Native.Nat.{ℕ, ◌≤◌}
use native.Mathlib.Omega.{arith}
use lib.Dec.{eqb, leb}
use lib.ListN.{length}
use borrow.Author.Tests.{eq-eqb, eqb-true, leb-true}
use Rattle.text.proofs.Pairs.{same_parts}
use Rattle.text.specs.Bytes.{same_bytes}
use Rattle.text.specs.Name.{is_name_byte, all_name_bytes, is_name}
use Rattle.text.specs.Lists.{all}
use Rattle.text.proofs.Words.{same_eq}
use Rattle.words.specs.declared.kind.Kind.{Kind}
use Rattle.words.specs.declared.kind.Kind.TheVariants.{Stimulus, Task, Interrupt, Runnable, Scheduler, OsEvent, Signal, Semaphore}
use Rattle.words.specs.declared.action.Action.{Action}
use Rattle.words.specs.Named.{pick, first_named}
use Rattle.words.specs.Kind.{kind_word, kinds, kind_of}
use Rattle.words.specs.Action.{word_of, action_code, actions_of, action_of, among, is_of}
use Rattle.words.specs.Pair.{pair_as, pair_with, named_by}
use Rattle.words.proofs.Actions.{actions, every, one_code}
use Rattle.words.proofs.Classes.{agree, agreed}

-- ---- the first thing of a list whose word bytes are: what holds where none is found, and of each thing that has these bytes for its word

module _ {A B : Type 0} (word : A → List ℕ) (found : A → B) (other : B) (s : List ℕ) (P : B → Type 0) where
  picked : (b : Bool) (x : A) (r : B) → same_bytes s (word x) ≡ b → (s ≡ word x → P (found x)) → P r → P (pick b (found x) r)
  unfolding pick
  picked true x r e f h = f (same_eq s (word x) e)
  picked false x r e f h = h

  pub first_named_lem : (xs : List A) → P other → ((x : A) → s ≡ word x → P (found x)) → P (first_named word found xs other s)
  first_named_lem [] h f = h
  first_named_lem (x ∷ xs) h f = picked (same_bytes s (word x)) x (first_named word found xs other s) refl (f x) (first_named_lem xs h f)

-- ---- types

pub kind_word_lem : (s : List ℕ) (k : Kind) → kind_of s ≡ Some k → s ≡ kind_word k
unfolding kind_of
kind_word_lem s k = first_named_lem kind_word Some None s (λ r. r ≡ Some k → s ≡ kind_word k) kinds (λ e. cc) (λ x w e. cc)

pub kind_back : (k : Kind) → kind_of (kind_word k) ≡ Some k
unfolding kind_of kind_word pick same_bytes
kind_back Stimulus = refl
kind_back Task = refl
kind_back Interrupt = refl
kind_back Runnable = refl
kind_back Scheduler = refl
kind_back OsEvent = refl
kind_back Signal = refl
kind_back Semaphore = refl

-- ---- events

named_word : (k : Kind) (s : List ℕ) (a : Action) → action_of k s ≡ Some a → s ≡ word_of a
unfolding action_of
named_word k s a = first_named_lem word_of Some None s (λ r. r ≡ Some a → s ≡ word_of a) (actions_of k) (λ e. cc) (λ x w e. cc)

-- an event was found, and it is this one
abbrev is_this : Action → Option Action → Bool
is_this a (Some b) = eqb (action_code b) (action_code a)
is_this a None = false

this_is : (a : Action) (r : Option Action) → is_this a r ≡ true → r ≡ Some a
this_is a (Some b) e = rw (one_code b a (eqb-true (action_code b) (action_code a) e))
this_is a None e = cc

-- the word of an event names it at the types that have it, and at no other
abbrev right : Kind → Action → Bool
right k a = agree (is_this a (action_of k (word_of a))) (is_of k a)

tested : (k : Kind) → all (right k) actions ≡ true
unfolding actions action_of word_of pick same_bytes is_of among actions_of action_code
tested Stimulus = refl
tested Task = refl
tested Interrupt = refl
tested Runnable = refl
tested Scheduler = refl
tested OsEvent = refl
tested Signal = refl
tested Semaphore = refl

named_is_of : (k : Kind) (a : Action) → is_this a (action_of k (word_of a)) ≡ is_of k a
named_is_of k a = agreed _ _ (every (right k) (tested k) a)

pub action_word : (k : Kind) (s : List ℕ) (a : Action) → action_of k s ≡ Some a → (s ≡ word_of a) × (is_of k a ≡ true)
action_word k s a e =
    let w = named_word k s a e in
    (w, sym (named_is_of k a) ∙ rw (← w, e) (eq-eqb (action_code a) (action_code a) refl))

pub action_back : (k : Kind) (a : Action) → is_of k a ≡ true → action_of k (word_of a) ≡ Some a
action_back k a e = this_is a (action_of k (word_of a)) (named_is_of k a ∙ e)

-- ---- a type and one of its events

pair_known : (j k : Kind) (f : Option Action) (a : Action) → pair_as j f ≡ Some (k, a) → (j ≡ k) × (f ≡ Some a)
pair_known j k (Some b) a e = let w = same_parts e in (w.0, ap Some w.1)
pair_known j k None a e = (cc, cc)

kind_known : (f : Option Kind) (t : List ℕ) (k : Kind) (a : Action) → pair_with f t ≡ Some (k, a) → f ≡ Some k
kind_known (Some j) t k a e = rw (pair_known j k (action_of j t) a e).0
kind_known None t k a e = cc

pub pair_words : (s t : List ℕ) (k : Kind) (a : Action) → named_by s t ≡ Some (k, a) → (s ≡ kind_word k) × (t ≡ word_of a) × (is_of k a ≡ true)
unfolding named_by
pair_words s t k a e =
    let q = kind_known (kind_of s) t k a e in
    let w = action_word k t a (pair_known k k (action_of k t) a (rw q at e)).1 in
    (kind_word_lem s k q, w.0, w.1)

pub pair_back : (k : Kind) (a : Action) → is_of k a ≡ true → named_by (kind_word k) (word_of a) ≡ Some (k, a)
unfolding named_by
pair_back k a e = rw (kind_back k, action_back k a e)

-- ---- words are short names

pub word_name : (a : Action) → is_name (word_of a) ≡ true
unfolding actions word_of is_name all_name_bytes is_name_byte
word_name = every (λ a. is_name (word_of a)) refl

pub word_short : (a : Action) → length (word_of a) ≤ 19
unfolding actions word_of
word_short a = leb-true (length (word_of a)) 19 (every (λ b. leb (length (word_of b)) 19) refl a)

pub kind_name : (k : Kind) → is_name (kind_word k) ≡ true
unfolding kind_word is_name all_name_bytes is_name_byte
kind_name Stimulus = refl
kind_name Task = refl
kind_name Interrupt = refl
kind_name Runnable = refl
kind_name Scheduler = refl
kind_name OsEvent = refl
kind_name Signal = refl
kind_name Semaphore = refl

pub kind_short : (k : Kind) → length (kind_word k) ≤ 5
unfolding kind_word
kind_short Stimulus = omega arith
kind_short Task = omega arith
kind_short Interrupt = omega arith
kind_short Runnable = omega arith
kind_short Scheduler = omega arith
kind_short OsEvent = omega arith
kind_short Signal = omega arith
kind_short Semaphore = omega arith
