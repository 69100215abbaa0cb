-- What a core is after a history, and the core rule as a run.
use Rattle.std.specs.Prelude.{◌≡◌, Bool, true, false, ◌&&◌, ◌||◌, cond, List, [], ◌∷◌, ℕ, Option, None, Some}
use Rattle.text.specs.Bytes.{same_bytes}
use Rattle.rules.specs.Lists.{member, when, latest}
use Rattle.rules.specs.Words.{start, resume, poll_parking, preempt, wait, park, terminate, poll, run, RUNNING, POLLING}
use Rattle.rules.specs.Charts.{is_process}
use Rattle.rules.specs.Event.{Event, Instance, instance_of, state_of}

-- "a core is unknown, idle or held by an instance"
pub data Core : Type 0 where
  unknown : Core
  idle : Core
  held : Instance → Core

-- "start, resume and poll_parking .. make it held"
abbrev pub takers : List ℕ
takers = start ∷ resume ∷ poll_parking ∷ []

unfoldable pub takes : ℕ → Bool
takes a = member a takers

-- "preempt, wait, park and terminate .. make it idle"
abbrev pub givers : List ℕ
givers = preempt ∷ wait ∷ park ∷ terminate ∷ []

unfoldable pub gives : ℕ → Bool
gives a = member a givers

-- "poll and run .. leave it held by this instance"
abbrev pub keepers : List ℕ
keepers = poll ∷ run ∷ []

unfoldable pub keeps : ℕ → Bool
keeps a = member a keepers

-- an event on a core: one of these on T or I. "release and release_parking neither track nor change one, and their source isn't looked up"
unfoldable pub on_core : Event → Bool
on_core e = is_process e.kind && (takes e.word || (gives e.word || keeps e.word))

-- what an event of a type and a word does to a core, as a number
abbrev pub no_core : ℕ
no_core = 0

abbrev pub takes_core : ℕ
takes_core = 1

abbrev pub gives_core : ℕ
gives_core = 2

abbrev pub keeps_core : ℕ
keeps_core = 3

unfoldable pub core_class : ℕ → ℕ → ℕ
core_class k a = cond (is_process k) (cond (takes a) takes_core (cond (gives a) gives_core (cond (keeps a) keeps_core no_core))) no_core

abbrev pub on : List ℕ → Event → Bool
on c e = on_core e && same_bytes c e.source

-- what the core c is after a history: what the latest event on it made it, unknown before the first
abbrev pub becomes : Bool → Instance → Core
becomes true x = idle
becomes false x = held x

abbrev pub effect_on : List ℕ → Event → Option Core
effect_on c e = when (on c e) (becomes (gives e.word) (instance_of e))

abbrev pub or_unknown : Option Core → Core
or_unknown None = unknown
or_unknown (Some k) = k

abbrev pub core_at : List ℕ → List Event → Core
core_at c h = or_unknown (latest (effect_on c) h)

-- ---- the core rule as a run from unknown

-- "need it unknown or idle"
pub data Free : Core → Type 0 where
  free_unknown : Free unknown
  free_idle : Free idle

-- "need it held by this instance"; "an unknown core also serves if the instance is seen for the first time", when it has no state yet
pub data Own (h : List Event) (x : Instance) : Core → Type 0 where
  own_held : Own h x (held x)
  own_first : state_of x h ≡ None → Own h x unknown

-- `CoreRun c h k`: the events of h on the core c follow the core rule, and leave it k
pub data CoreRun (c : List ℕ) : List Event → Core → Type 0 where
  fresh : CoreRun c [] unknown
  elsewhere : {h : List Event} {e : Event} {k : Core} → on c e ≡ false → CoreRun c h k → CoreRun c (e ∷ h) k
  taking : {h : List Event} {e : Event} {k : Core} → on c e ≡ true → takes e.word ≡ true → Free k → CoreRun c h k → CoreRun c (e ∷ h) (held (instance_of e))
  giving : {h : List Event} {e : Event} {k : Core} → on c e ≡ true → gives e.word ≡ true → Own h (instance_of e) k → CoreRun c h k → CoreRun c (e ∷ h) idle
  keeping : {h : List Event} {e : Event} {k : Core} →
      on c e ≡ true → keeps e.word ≡ true → Own h (instance_of e) k → CoreRun c h k → CoreRun c (e ∷ h) (held (instance_of e))

-- ---- nobody shares a core

-- an instance in RUNNING or POLLING occupies a core
unfoldable pub occupies : Option ℕ → Bool
occupies None = false
occupies (Some s) = member s (RUNNING ∷ POLLING ∷ [])

-- "each process instance in RUNNING or POLLING holds exactly one core, every held core is held by exactly one such instance, and no instance in
-- another state holds any" (02, No. 14)
pub record Alone (h : List Event) : Type 0 where
  pub holder_occupies : (c : List ℕ) (x : Instance) → core_at c h ≡ held x → (is_process x.kind ≡ true) × (occupies (state_of x h) ≡ true)
  pub occupier_holds : (x : Instance) → is_process x.kind ≡ true → occupies (state_of x h) ≡ true → (c : List ℕ) × (core_at c h ≡ held x)
  pub one_core : (x : Instance) (c d : List ℕ) → core_at c h ≡ held x → core_at d h ≡ held x → c ≡ d
