-- What demand 2 asks of a trace, clause by clause: of its lines, that each is well formed and in its place; of the list of their events, what holds of the
-- list as a whole, where nothing is looked up, tested event by event or answered. Lists have THE NEWEST FIRST.
use Rattle.std.specs.Prelude.{◌≡◌, Bool, true, ◌&&◌, ◌||◌, List, [], ◌∷◌, ℕ, ◌+◌, ◌≤◌, eqb, length, Some}
use Rattle.text.specs.Bytes.{same_bytes}
use Rattle.text.specs.Sizes.{name_limit, core_limit}
use Rattle.text.specs.Lists.{any}
use Rattle.rules.specs.Lists.{only}
use Rattle.rules.specs.Words.{core, semaphore}
use Rattle.rules.specs.Limits.{instance_limit}
use Rattle.rules.specs.Chart.{Run}
use Rattle.rules.specs.Charts.{chart_of}
use Rattle.rules.specs.Event.{Event, Instance, words_of, first_word}
use Rattle.rules.specs.Core.{Core, on, CoreRun}
use Rattle.rules.specs.History.{is_tracked, names, cores, activates, numbers, first_number, entries}
use Rattle.rules.specs.Refusals.{count_follows, count_allowed}
use Rattle.rules.specs.Lines.{events_of}
use Rattle.rules.specs.Trace.{place_of, InPlace}

-- ---- lists

module _ {A : Type 0} where
  -- each element follows the one before it: `follows before now`
  abbrev pub Chain : (A → A → Type 0) → List A → Type 0
  Chain follows [] = Unit {0}
  Chain follows (x ∷ []) = Unit {0}
  Chain follows (x ∷ y ∷ ys) = follows y x × Chain follows (y ∷ ys)

  -- after each element: of the list as it stood then
  abbrev pub Always : (List A → Type 0) → List A → Type 0
  Always holds [] = holds []
  Always holds (x ∷ xs) = holds (x ∷ xs) × Always holds xs

  abbrev pub Each : (A → Type 0) → List A → Type 0
  Each holds [] = Unit {0}
  Each holds (x ∷ xs) = holds x × Each holds xs

-- ---- the clauses

-- the event uses the name n as the kind k: as its target, of T, I, R or SEM, or as its core
unfoldable pub uses : List ℕ → ℕ → Event → Bool
uses n k e = (is_tracked e.kind && (eqb k e.kind && same_bytes n e.target)) || (eqb k core && on n e)

-- not "a tracked name in a second of the five kinds (core, T, I, R, SEM), source and target of one core line included"
abbrev pub OneKind : List Event → Type 0
OneKind es = (n : List ℕ) (j k : ℕ) → any (uses n j) es ≡ true → any (uses n k) es ≡ true → j ≡ k

-- not "the names or instances that the line adds don't fit"; of the instances, "Refusal 10 for instances is then given exactly when 1,024 entries are living or older
-- than their entity's first activation (all are, while it has none) and one more is needed" (02, No. 7): so there are never more, all along
pub record Fits (es : List Event) : Type 0 where
  pub names_fit : length (names es) ≤ name_limit
  pub cores_fit : length (cores es) ≤ core_limit
  pub entries_fit : Always (λ h. length (entries h) ≤ instance_limit) es

-- "a second or later activate or mtalimitexceeded of one process, or start of one runnable, bears the number of the one before plus 1"
abbrev pub NumberAfter : Event → Event → Type 0
NumberAfter d e = e.target_instance ≡ d.target_instance + 1

-- "Once a process has had an activate or mtalimitexceeded numbered f, a non-activating first event of an instance numbered f or more is 11. The first activate or
-- mtalimitexceeded must bear a number above all seen of that process, else 12. Runnables the same, with start." (02, No. 5) Both in one: where f is the first
-- such number of a process or runnable, each of its instances numbered f or more begins with such an event. One that was seen before did not, so f is above it.
abbrev pub Begun : List Event → Type 0
Begun es = (x : Instance) (f a : ℕ) → first_number x.kind x.name es ≡ Some f → f ≤ x.number → first_word x es ≡ Some a → activates x.kind a ≡ true

-- the lines of the semaphore n
unfoldable pub counts : List ℕ → Event → Bool
counts n e = eqb e.kind semaphore && same_bytes n e.target

-- "requestsemaphore, queued, assigned, waiting, released and all state events bear c, increment c + 1, decrement c − 1", where
-- "c is the note of the semaphore's last line"
abbrev pub CountAfter : Event → Event → Type 0
CountAfter d e = count_follows (Some d.count) e.word e.count ≡ true

-- "Always: increment at least 1; free and unlock 0; lock 1; used, unlock_full, lock_used and full at least 1; overfull at least 2."
abbrev pub FixedCount : Event → Type 0
FixedCount e = e.kind ≡ semaphore → count_allowed e.word e.count ≡ true

-- ---- the events of a trace

pub record Orderly (es : List Event) : Type 0 where
  -- "time never falls"
  pub time : Chain (λ d e. d.time ≤ e.time) es
  -- each name is of one of the five kinds
  pub kinds : OneKind es
  -- "names and instances fit"
  pub room : Fits es
  -- "each process, runnable, semaphore .. follows its chart": its words run through it from some state ("An entity starts in any state")
  pub charts : (x : Instance) → (s : ℕ) × (n : ℕ) × Run (chart_of x.kind) s (words_of x es) n
  -- "Instance numbers": of each process and runnable
  pub numbered : (k : ℕ) (n : List ℕ) → Chain NumberAfter (only (numbers k n) es)
  -- and each instance from the first activation on begins with its own (02, No. 5)
  pub begun : Begun es
  -- ".. and core": its events run from unknown by the core rule ("Cores (house: one process instance at a time)")
  pub on_cores : (c : List ℕ) → (k : Core) × CoreRun c es k
  -- "Counts": of each semaphore, from line to line
  pub counted : (n : List ℕ) → Chain CountAfter (only (counts n) es)
  -- and by itself
  pub fixed_counts : Each FixedCount es

-- ---- the lines of a trace

-- the lines so far: each is well formed and in its place, and their events are in order
pub record SoFar (h : List (List ℕ)) : Type 0 where
  pub in_place : InPlace h
  pub events : Orderly (events_of h)

-- A whole trace. "A trace is accepted exactly if every line is well formed and in its place, time never falls, names and instances fit, and each process,
-- runnable, semaphore and core follows its chart"; and it has a time scale ("none by the end" is 4), so that it is not empty.
pub record Lawful (h : List (List ℕ)) : Type 0 where
  pub in_place : InPlace h
  pub scaled : (place_of h).scale ≡ 0 → ⊥
  pub events : Orderly (events_of h)
