-- A history of n events that each bring a new runnable tracks n names, no core and at most n instances. By these laws the answers after 255 and 256 names
-- are computed in one walk of the history; by the definitions alone the checker would compare every two names.
use Rattle.std.proofs.Common.{None}
use mathlib.Core.Path.{◌≡◌, refl, ap, ◌∙◌}
use mathlib.Core.Bool.{Bool, true, false, ◌&&◌, ◌||◌, cond, or-false}
use mathlib.Core.List.{List, [], ◌∷◌}
use Prim.Native.Nat.{ℕ, zero, suc, ◌+◌, ◌≤◌, ◌<◌}
use native.Mathlib.Omega.{arith}
use lib.Dec.{eqb, leb, ltb}
use lib.ListN.{length, length-append}
use borrow.Author.Tests.{ne_eqb, le-ltb, lt-ltb, lt-leb}
use Rattle.text.specs.Literal.{bytes}
use Rattle.text.specs.Bytes.{same_bytes}
use Rattle.text.specs.Sizes.{name_limit, core_limit}
use Rattle.text.specs.Lists.{any}
use Rattle.text.proofs.Words.{same_eq, same_refl, other_length}
use Rattle.line.specs.Answer.{test, lowest}
use Rattle.rules.specs.Lists.{only, when, or_else, add_unless, add_new}
use Rattle.rules.specs.Words.{core, task, runnable, start}
use Rattle.rules.specs.Charts.{is_process}
use Rattle.rules.specs.Event.{Event, Instance, same_instance, instance_of}
use Rattle.rules.specs.Core.{takes, on_core}
use Rattle.rules.specs.History.{has_instances, is_tracked, named, names, kind_in, kind_of, is_kind, cores, instances, activates, numbers, last_number, is_from, above_all, needs_entry, entries}
use Rattle.rules.specs.Refusals.{look, time_falls, second_kind, no_room, not_allowed, not_next, core_broken, count_broken, event_tests, answer_to}
use Rattle.rules.specs.Verdict.{answer}
use Rattle.rules.proofs.Sums.{any_new, none_one_more, only_less}
use Rattle.rules.specs.Limits.{instance_limit}

-- an event line of each type: time, source and its instance, target and its instance, event
abbrev pub line : ℕ → ℕ → List ℕ → ℕ → List ℕ → ℕ → ℕ → Event
line k t s i p j a = record { time = t; source = s; source_instance = i; kind = k; target = p; target_instance = j; word = a; count = 0 }

-- a trigger of a stimulus, which only moves the time
abbrev pub trigger : ℕ → Event
trigger t = record { time = t; source = bytes "S"; source_instance = 0; kind = 0; target = bytes "S"; target_instance = 0; word = 0; count = 0 }

-- a history of n events, and the events that bring a new runnable and a new core
abbrev pub many : (ℕ → Event) → ℕ → List Event
many f zero = []
many f (suc n) = f n ∷ many f n

abbrev pub new_name : ℕ → Event
new_name i = line runnable 0 (bytes "P") 0 (i ∷ []) 0 start

abbrev pub new_core : ℕ → Event
new_core i = line task 0 (0 ∷ i ∷ []) 0 (bytes "Task_A") i start

-- ---- what is counted

one_more : {A : Type 0} (b : Bool) (xs : List A) (y : A) → length (add_unless b xs y) ≤ length xs + 1
one_more true xs y = omega arith
one_more false xs y = omega (arith, length-append xs (y ∷ []))

added : (x : List ℕ) (xs : List (List ℕ)) → any (same_bytes x) xs ≡ false → length (add_new same_bytes xs x) ≡ length xs + 1
added x xs q = rw q (length-append xs (x ∷ []))

-- a name that is none of them
absent : (n : ℕ) (x : List ℕ) → ((i : ℕ) → i < n → same_bytes x (i ∷ []) ≡ false) → any (same_bytes x) (names (many new_name n)) ≡ false
unfolding names named has_instances is_tracked is_process on_core
absent zero x q = refl
absent (suc n) x q =
    any_new same_bytes same_eq same_refl (names (many new_name n)) (n ∷ []) x
    ∙ rw (absent n x (λ i h. q i (omega (arith, h))), q n (omega arith))

-- nor is the next
next_differs : (n i : ℕ) → i < n → same_bytes (n ∷ []) (i ∷ []) ≡ false
unfolding same_bytes
next_differs n i h = rw (ne_eqb n i (λ q. omega (arith, h, q)))

next_absent : (n : ℕ) → any (same_bytes (n ∷ [])) (names (many new_name n)) ≡ false
next_absent n = absent n (n ∷ []) (next_differs n)

names_many : (n : ℕ) → length (names (many new_name n)) ≡ n
unfolding names named has_instances is_tracked is_process on_core
names_many zero = refl
names_many (suc n) = added (n ∷ []) (names (many new_name n)) (next_absent n) ∙ omega (arith, names_many n)

instances_many : (n : ℕ) → length (instances (many new_name n)) ≤ n
unfolding instances has_instances is_process
instances_many zero = omega arith
instances_many (suc n) =
    let x : Instance = instance_of (new_name n) in
    omega (arith, instances_many n, one_more (any (same_instance x) (instances (many new_name n))) (instances (many new_name n)) x)

few : (n : ℕ) → n < instance_limit → length (entries (many new_name n)) < instance_limit
few n h = omega (arith, instances_many n, only_less (needs_entry (many new_name n)) (instances (many new_name n)), h)

no_core : (n : ℕ) (x : List ℕ) → is_kind (eqb core) (kind_of x (many new_name n)) ≡ false
unfolding kind_in has_instances is_tracked is_process on_core
no_core zero x = refl
no_core (suc n) x = by_test (same_bytes x (n ∷ [])) (no_core n x)
  where
    by_test : (b : Bool) → is_kind (eqb core) (kind_of x (many new_name n)) ≡ false →
        is_kind (eqb core) (or_else (or_else (when b runnable) None) (kind_of x (many new_name n))) ≡ false
    by_test true q = refl
    by_test false q = q

only_none : {A : Type 0} (f : A → Bool) → ((x : A) → f x ≡ false) → (xs : List A) → only f xs ≡ []
only_none f q [] = refl
only_none f q (x ∷ xs) = rw (q x) (only_none f q xs)

cores_many : (n : ℕ) → cores (many new_name n) ≡ []
cores_many n = only_none (λ x. is_kind (eqb core) (kind_of x (many new_name n))) (no_core n) (names (many new_name n))

-- ---- the number of one more

module _ (x : List ℕ) where
  -- one that is none of them has no number and was not seen
  unnumbered : (n : ℕ) → ((i : ℕ) → i < n → same_bytes x (i ∷ []) ≡ false) → last_number runnable x (many new_name n) ≡ None
  unfolding last_number numbers activates is_process
  unnumbered zero q = refl
  unnumbered (suc n) q = rw (q n (omega arith)) (unnumbered n (λ i h. q i (omega (arith, h))))

  not_seen : (n : ℕ) → ((i : ℕ) → i < n → same_bytes x (i ∷ []) ≡ false) → any (is_from runnable x 0) (instances (many new_name n)) ≡ false
  unfolding instances has_instances is_process is_from
  not_seen zero q = refl
  not_seen (suc n) q =
      let y : Instance = instance_of (new_name n) in
      none_one_more (is_from runnable x 0) (any (same_instance y) (instances (many new_name n))) (instances (many new_name n)) y
      (not_seen n (λ i h. q i (omega (arith, h)))) (rw (q n (omega arith)))

first_of_many : (n : ℕ) → not_next (look (many new_name n) (new_name n)) (new_name n) ≡ false
unfolding not_next above_all activates is_process
first_of_many n = rw (unnumbered (n ∷ []) n (next_differs n), not_seen (n ∷ []) n (next_differs n)) refl

-- ---- the answer, given whether there is room and whether the number is the next

abbrev pub answer_if : Bool → Bool → List Event → Event → ℕ
answer_if full wrong h e =
    let k = look h e in
    cond (time_falls k e) 8
    (cond (second_kind k e) 9
    (cond full 10
    (lowest (test 11 (not_allowed k e) ∷ test 12 wrong ∷ test 13 (core_broken k e) ∷ test 14 (count_broken k e) ∷ []))))

pub answer_if_lem : (h : List Event) (e : Event) (full wrong : Bool) → no_room (look h e) e ≡ full → not_next (look h e) e ≡ wrong → answer h e ≡ answer_if full wrong h e
unfolding answer_to event_tests
answer_if_lem h e full wrong q r = λ i. answer_if (q i) (r i) h e

-- without cores, and with few instances, the names decide
names_decide : (n c i : ℕ) (b : Bool) → c ≡ 0 → i < instance_limit → ltb name_limit n || (ltb core_limit c || (leb instance_limit i && b)) ≡ ltb name_limit n
names_decide n c i b q r = rw (le-ltb core_limit c (omega (arith, q)), lt-leb instance_limit i r) (or-false (ltb name_limit n))

-- after n names: one more; an event that tracks none; a core and its process, both new
pub name_after : (n : ℕ) → n < instance_limit → answer (many new_name n) (new_name n) ≡ answer_if (ltb name_limit (n + 1)) false (many new_name n) (new_name n)
unfolding no_room
name_after n h =
    let all : length (names (many new_name (suc n))) ≡ n + 1 = omega (arith, names_many (suc n)) in
    answer_if_lem (many new_name n) (new_name n) (ltb name_limit (n + 1)) false
    (names_decide (length (names (many new_name (suc n)))) _ _ _ (ap length (cores_many (suc n))) (few n h) ∙ ap (ltb name_limit) all) (first_of_many n)

pub trigger_after : (n : ℕ) → n < instance_limit → answer (many new_name n) (trigger 0) ≡ answer_if (ltb name_limit n) false (many new_name n) (trigger 0)
unfolding no_room not_next activates names named instances kind_in has_instances is_tracked is_process on_core
trigger_after n h =
    answer_if_lem (many new_name n) (trigger 0) (ltb name_limit n) false
    (names_decide (length (names (many new_name n))) _ _ _ (ap length (cores_many n)) (few n h) ∙ ap (ltb name_limit) (names_many n)) refl

pub core_after : (n : ℕ) → 255 ≤ n → answer (many new_name n) (new_core 0) ≡ answer_if true false (many new_name n) (new_core 0)
unfolding no_room not_next activates names named has_instances is_tracked is_process on_core takes
core_after n h = answer_if_lem (many new_name n) (new_core 0) true false (rw (lt-ltb name_limit _ more)) refl
  where
    the_core : List ℕ
    the_core = (new_core 0).source

    the_task : List ℕ
    the_task = (new_core 0).target

    new_core_lem : any (same_bytes the_core) (names (many new_name n)) ≡ false
    new_core_lem = absent n the_core (λ i q. other_length the_core (i ∷ []) (λ q. omega (arith, q)))

    new_task : any (same_bytes the_task) (add_new same_bytes (names (many new_name n)) the_core) ≡ false
    new_task =
        any_new same_bytes same_eq same_refl (names (many new_name n)) the_core the_task
        ∙ rw (absent n the_task (λ i q. other_length the_task (i ∷ []) (λ q. omega (arith, q))))
        (other_length the_task the_core (λ q. omega (arith, q)))

    more : name_limit < length (names (new_core 0 ∷ many new_name n))
    more = omega (arith, added the_task (add_new same_bytes (names (many new_name n)) the_core) new_task, added the_core (names (many new_name n)) new_core_lem, names_many n, h)
