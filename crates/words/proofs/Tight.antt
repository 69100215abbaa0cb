-- How tight the contracts of the words are: no second answer, and wrong answers that they shut out.
use Rattle.std.proofs.Common.{None, Some, Option}
use mathlib.Core.Path.{◌≡◌, refl}
use mathlib.Core.Bool.{Bool, true, false, not, cond}
use mathlib.Core.List.{List, ◌++◌}
use Prim.Native.Nat.{ℕ, suc, ◌+◌}
use lib.Dec.{eqb, ltb}
use lib.ListN.{length, get_or}
use Rattle.text.specs.Literal.{bytes}
use Rattle.text.specs.Bytes.{same_bytes}
use Rattle.text.specs.Put.{Put, after, written, put}
use Rattle.text.proofs.Tight.{unique, put_unique, ShutsOut, shut_out}
use Rattle.words.specs.declared.kind.Kind.{Kind}
use Rattle.words.specs.declared.kind.Kind.TheVariants.{Stimulus, Task, Signal, Semaphore}
use Rattle.words.specs.declared.action.Action.{Action}
use Rattle.words.specs.declared.action.Action.TheVariants.{Release, Released, Run, Start, Trigger}
use Rattle.words.specs.declared.scale.Scale.{Scale}
use Rattle.words.specs.Named.{pick}
use Rattle.words.specs.Kind.{kind_word, kind_of}
use Rattle.words.specs.Action.{word_of, action_code, actions_of, action_of, among, is_of}
use Rattle.words.specs.Pair.{pair_with, named_by}
use Rattle.words.specs.Code.{release, released, waiting}
use Rattle.words.specs.Class.{no_class, unparking, beginning, class_at, class_of}
use Rattle.words.specs.Scale.{scale_word, scale_of}

-- ---- `kind_of`, `kind_length`, `put_kind`

pub kind_unique : (s : List ℕ) (x y : Option Kind) → x ≡ kind_of s → y ≡ kind_of s → x ≡ y
kind_unique = unique kind_of

abbrev is_kind : List ℕ → Option Kind → Bool
is_kind w (Some k) = same_bytes w (kind_word k)
is_kind w None = false

pub kind_not_missed : ShutsOut kind_of (λ s. None)
unfolding kind_of kind_word pick same_bytes
kind_not_missed = shut_out (is_kind (bytes "SEM")) (bytes "SEM") refl refl

-- the first letter decides
pub kind_not_by_letter : ShutsOut kind_of (λ s. cond (eqb (get_or s 0 0) 83) (Some Stimulus) (kind_of s))
unfolding kind_of kind_word pick same_bytes
kind_not_by_letter = shut_out (is_kind (bytes "SIG")) (bytes "SIG") refl refl

pub kind_length_unique : (k : Kind) (x y : ℕ) → x ≡ length (kind_word k) → y ≡ length (kind_word k) → x ≡ y
kind_length_unique = unique (λ k. length (kind_word k))

pub kind_length_not_one : ShutsOut (λ k. length (kind_word k)) (λ k. 1)
unfolding kind_word
kind_length_not_one = shut_out (eqb 3) Semaphore refl refl

pub kind_length_not_more : ShutsOut (λ k. length (kind_word k)) (λ k. suc (length (kind_word k)))
unfolding kind_word
kind_length_not_more = shut_out (eqb 1) Task refl refl

pub put_kind_unique : (k : Kind) (out : List ℕ) (at : ℕ) (x y : Put) → x ≡ put out at (kind_word k) → y ≡ put out at (kind_word k) → x ≡ y
put_kind_unique k out at = put_unique out at (kind_word k)

pub put_kind_not_idle : ShutsOut {A = Kind × List ℕ × ℕ} (λ (k, out, at). put out at (kind_word k)) (λ (k, out, at). after (at + length (kind_word k)) out)
unfolding put written kind_word same_bytes
put_kind_not_idle = shut_out (λ p. same_bytes p.output (bytes "xSEM")) (Semaphore, bytes "xxxx", 1) refl refl

pub put_kind_not_begun : ShutsOut {A = Kind × List ℕ × ℕ} (λ (k, out, at). put out at (kind_word k)) (λ (k, out, at). after at (written out at (kind_word k)))
unfolding put written kind_word same_bytes
put_kind_not_begun = shut_out (λ p. same_bytes p.output (bytes "xx")) (Semaphore, bytes "xx", 0) refl refl

-- ---- `action_of`, `action_code`, `word_length`, `put_word`

pub action_unique : (k : Kind) (s : List ℕ) (x y : Option Action) → x ≡ action_of k s → y ≡ action_of k s → x ≡ y
action_unique k = unique (action_of k)

abbrev is_action : List ℕ → Option Action → Bool
is_action w (Some a) = same_bytes w (word_of a)
is_action w None = false

-- a word names its own event, and not one that it begins with
pub action_not_another : ShutsOut (action_of Task) (λ s. cond (same_bytes s (bytes "release_parking")) (Some Release) (action_of Task s))
unfolding action_of actions_of word_of pick same_bytes
action_not_another = shut_out (is_action (bytes "release_parking")) (bytes "release_parking") refl refl

pub code_unique : (a : Action) (x y : ℕ) → x ≡ action_code a → y ≡ action_code a → x ≡ y
code_unique = unique action_code

-- counted from 1
pub code_not_from_one : ShutsOut action_code (λ a. suc (action_code a))
unfolding action_code
code_not_from_one = shut_out (eqb 0) Trigger refl refl

pub code_not_shared : ShutsOut action_code (λ a. 0)
unfolding action_code
code_not_shared = shut_out (eqb 12) Start refl refl

-- released is a semaphore's word, and release a process's
pub code_not_as_release : ShutsOut action_code (λ a. cond (eqb (action_code a) released) release (action_code a))
unfolding action_code
code_not_as_release = shut_out (eqb released) Released refl refl

pub word_length_unique : (a : Action) (x y : ℕ) → x ≡ length (word_of a) → y ≡ length (word_of a) → x ≡ y
word_length_unique = unique (λ a. length (word_of a))

-- the longest word's
pub word_length_not_most : ShutsOut (λ a. length (word_of a)) (λ a. 19)
unfolding word_of
word_length_not_most = shut_out (eqb 3) Run refl refl

pub word_length_not_more : ShutsOut (λ a. length (word_of a)) (λ a. suc (length (word_of a)))
unfolding word_of
word_length_not_more = shut_out (eqb 3) Run refl refl

pub put_word_unique : (a : Action) (out : List ℕ) (at : ℕ) (x y : Put) → x ≡ put out at (word_of a) → y ≡ put out at (word_of a) → x ≡ y
put_word_unique a out at = put_unique out at (word_of a)

pub put_word_not_idle : ShutsOut {A = Action × List ℕ × ℕ} (λ (a, out, at). put out at (word_of a)) (λ (a, out, at). after (at + length (word_of a)) out)
unfolding put written word_of same_bytes
put_word_not_idle = shut_out (λ p. same_bytes p.output (bytes "xrun")) (Run, bytes "xxxx", 1) refl refl

-- ---- `class_of`, `class_at`, `is_of`

pub class_unique : (a : Action) (x y : ℕ) → x ≡ class_of a → y ≡ class_of a → x ≡ y
class_unique = unique class_of

-- start is a runnable's event too
pub class_not_of_processes : ShutsOut class_of (λ a. cond (eqb (class_of a) beginning) unparking (class_of a))
unfolding class_of class_at action_code
class_not_of_processes = shut_out (eqb beginning) Start refl refl

pub class_at_unique : (n x y : ℕ) → x ≡ class_at n → y ≡ class_at n → x ≡ y
class_at_unique = unique class_at

-- the last event's, past the last code
pub class_at_not_the_last : ShutsOut class_at (λ n. cond (ltb waiting n) (class_at waiting) (class_at n))
unfolding class_at
class_at_not_the_last = shut_out (eqb no_class) 38 refl refl

pub is_of_unique : (k : Kind) (a : Action) (x y : Bool) → x ≡ is_of k a → y ≡ is_of k a → x ≡ y
is_of_unique k = unique (is_of k)

pub is_of_not_always : ShutsOut {A = Kind × Action} (λ (k, a). is_of k a) (λ (k, a). true)
unfolding is_of among action_code actions_of
is_of_not_always = shut_out not (Signal, Start) refl refl

-- ---- `named`

pub named_unique : (kind action : List ℕ) (x y : Option (Kind × Action)) → x ≡ named_by kind action → y ≡ named_by kind action → x ≡ y
named_unique kind = unique (named_by kind)

abbrev is_known : List ℕ → Option (Kind × Action) → Bool
is_known w (Some (k, a)) = same_bytes w (kind_word k ++ word_of a)
is_known w None = false

abbrev is_unknown : Option (Kind × Action) → Bool
is_unknown (Some (k, a)) = false
is_unknown None = true

-- every event as one of T
pub named_not_of_tasks : ShutsOut {A = List ℕ × List ℕ} (λ (kind, action). named_by kind action) (λ (kind, action). pair_with (Some Task) action)
unfolding named_by kind_of kind_word action_of actions_of word_of pick same_bytes
named_not_of_tasks = shut_out is_unknown (bytes "SIG", bytes "start") refl refl

pub named_not_unknown : ShutsOut {A = List ℕ × List ℕ} (λ (kind, action). named_by kind action) (λ (kind, action). None)
unfolding named_by kind_of kind_word action_of actions_of word_of pick same_bytes
named_not_unknown = shut_out (is_known (bytes "Tstart")) (bytes "T", bytes "start") refl refl

-- ---- `scale_of`

pub scale_unique : (s : List ℕ) (x y : Option Scale) → x ≡ scale_of s → y ≡ scale_of s → x ≡ y
scale_unique = unique scale_of

abbrev is_scale : List ℕ → Option Scale → Bool
is_scale w (Some s) = same_bytes w (scale_word s)
is_scale w None = false

pub scale_not_missed : ShutsOut scale_of (λ s. None)
unfolding scale_of scale_word pick same_bytes
scale_not_missed = shut_out (is_scale (bytes "ns")) (bytes "ns") refl refl

-- `s` after any letter
pub scale_not_by_its_end : ShutsOut scale_of (λ s. cond (eqb (get_or s 1 0) 115) (scale_of (bytes "s")) (scale_of s))
unfolding scale_of scale_word pick same_bytes
scale_not_by_its_end = shut_out (is_scale (bytes "ms")) (bytes "ms") refl refl
