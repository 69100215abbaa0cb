-- What a history says of names, instances, numbers and counts, and which instances need an entry.
use Rattle.std.specs.Prelude.{Bool, false, not, ◌&&◌, ◌||◌, List, [], ◌∷◌, ℕ, eqb, leb, Option, None, Some}
use Rattle.text.specs.Bytes.{same_bytes}
use Rattle.text.specs.Lists.{any}
use Rattle.rules.specs.Lists.{member, only, keep, when, or_else, latest, earliest, add_all}
use Rattle.rules.specs.Words.{core, runnable, semaphore, activate, mtalimitexceeded, start, TERMINATED}
use Rattle.rules.specs.Charts.{is_process}
use Rattle.rules.specs.Event.{Event, Instance, same_instance, instance_of, state_of}
use Rattle.rules.specs.Core.{on_core, on}

-- ---- tracked names, in order of first mention

-- "process and runnable instances"
unfoldable pub has_instances : ℕ → Bool
has_instances k = is_process k || eqb k runnable

-- "the targets of T, I, R and SEM lines"
unfoldable pub is_tracked : ℕ → Bool
is_tracked k = has_instances k || eqb k semaphore

-- "Tracked names are these cores and the targets of T, I, R and SEM lines": the names that a line mentions
unfoldable pub named : Event → List (List ℕ)
named e = keep (on_core e) e.source (keep (is_tracked e.kind) e.target [])

unfoldable pub names : List Event → List (List ℕ)
names [] = []
names (e ∷ h) = add_all same_bytes (names h) (named e)

-- the kind in which a line uses a name, and the latest of a history
unfoldable pub kind_in : List ℕ → Event → Option ℕ
kind_in n e = or_else (when (is_tracked e.kind && same_bytes n e.target) e.kind) (when (on n e) core)

abbrev pub kind_of : List ℕ → List Event → Option ℕ
kind_of n = latest (kind_in n)

abbrev pub is_kind : (ℕ → Bool) → Option ℕ → Bool
is_kind f None = false
is_kind f (Some k) = f k

-- "A core is tracked from its first such event"
abbrev pub cores : List Event → List (List ℕ)
cores h = only (λ n. is_kind (eqb core) (kind_of n h)) (names h)

abbrev pub processes : List Event → List (List ℕ)
processes h = only (λ n. is_kind is_process (kind_of n h)) (names h)

-- ---- process and runnable instances, in order of first mention

unfoldable pub instances : List Event → List Instance
instances [] = []
instances (e ∷ h) = add_all same_instance (instances h) (keep (has_instances e.kind) (instance_of e) [])

-- ---- the last time, and the numbers of activations

abbrev pub last_time : List Event → Option ℕ
last_time [] = None
last_time (e ∷ h) = Some e.time

-- "activate or mtalimitexceeded of one process, or start of one runnable"
unfoldable pub activates : ℕ → ℕ → Bool
activates k a = (is_process k && member a (activate ∷ mtalimitexceeded ∷ [])) || (eqb k runnable && eqb a start)

-- such an event of the one of kind k that is named n
unfoldable pub numbers : ℕ → List ℕ → Event → Bool
numbers k n e = activates e.kind e.word && (eqb k e.kind && same_bytes n e.target)

-- the number of the latest of them, and of the first
unfoldable pub last_number : ℕ → List ℕ → List Event → Option ℕ
last_number k n = latest (λ e. when (numbers k n e) e.target_instance)

unfoldable pub first_number : ℕ → List ℕ → List Event → Option ℕ
first_number k n = earliest (λ e. when (numbers k n e) e.target_instance)

-- an instance of the process or runnable of kind k that is named n, numbered i or more
unfoldable pub is_from : ℕ → List ℕ → ℕ → Instance → Bool
is_from k n i x = eqb k x.kind && (same_bytes n x.name && leb i x.number)

-- "a number above all seen of that process" (02, No. 5)
unfoldable pub above_all : ℕ → List ℕ → ℕ → List Event → Bool
above_all k n i h = not (any (is_from k n i) (instances h))

-- a number at the first one or above it; none is, while there is no first one
abbrev pub reaches : Option ℕ → ℕ → Bool
reaches None i = false
reaches (Some f) i = leb f i

-- ---- the instances that need an entry (02, No. 7)

abbrev pub is_terminated : Option ℕ → Bool
is_terminated None = false
is_terminated (Some s) = eqb s TERMINATED

-- "a TERMINATED instance numbered at or above its entity's first activating number (start, for a runnable) needs no entry"
unfoldable pub needs_entry : List Event → Instance → Bool
needs_entry h x = not (is_terminated (state_of x h) && reaches (first_number x.kind x.name h) x.number)

-- "living or older than their entity's first activation (all are, while it has none)"
abbrev pub entries : List Event → List Instance
entries h = only (needs_entry h) (instances h)

abbrev pub has_entry : List Event → Instance → Bool
has_entry h x = any (same_instance x) (entries h)

-- ---- a semaphore's count

-- "c is the note of the semaphore's last line"
unfoldable pub last_count : List ℕ → List Event → Option ℕ
last_count n = latest (λ e. when (eqb e.kind semaphore && same_bytes n e.target) e.count)
