-- What it is that tables show a history of events, and of lines. Histories have THE NEWEST FIRST.
use Rattle.std.specs.Prelude.{◌≡◌, true, false, cond, List, [], ◌∷◌, ℕ, ◌+◌, ◌-◌, ◌*◌, ◌≤◌, ◌<◌, eqb, length, Option, None, Some}
use Rattle.text.specs.Bytes.{same_bytes}
use Rattle.text.specs.Lists.{any, sum_over}
use Rattle.rules.specs.Words.{core, semaphore}
use Rattle.rules.specs.Event.{Event, Instance, state_of}
use Rattle.rules.specs.Core.{Core, unknown, idle, held, core_at}
use Rattle.rules.specs.History.{names, cores, kind_of, last_number, first_number, entries, has_entry, last_count}
use Rattle.rules.specs.Sheet.{first_time as firstEventTime, is_held, is_idle, is_held_by, held_ticks, idle_ticks, unknown_ticks, charge}
use Rattle.rules.specs.Lines.{events_of}
use Rattle.rules.specs.Trace.{place_of}
use Rattle.steps.specs.Rows.{opened}
use Rattle.tables.specs.Sized.{Sized}
use Rattle.tables.specs.Entry.{idle_core, held_by, creator_entry, date_entry, started_entry, name_count, core_count, instance_count}
use Rattle.tables.specs.Entry.{kind_at, length_at, standing_at, number_at, numbered_at, first_number_at, owner_at, instance_at}
use Rattle.tables.specs.Entry.{state_at, first_time, last_time, held_at, idle_at, unknown_at, since_at, name_at, places}
use Rattle.index.specs.Index.{index_from}
use Rattle.judge.specs.Feed.{Tables, place_in}
use Rattle.promises.specs.Places.{row_of}

-- ---- the first and the last event time, 0 before the first event

abbrev pub first_of : List Event → ℕ
first_of [] = 0
first_of (e ∷ h) = firstEventTime e h

abbrev pub last_of : List Event → ℕ
last_of [] = 0
last_of (e ∷ h) = e.time

abbrev pub started_of : List Event → ℕ
started_of [] = 0
started_of (e ∷ h) = 1

pub record SinglesShown (h : List Event) (nums ticks : List ℕ) : Type 0 where
  pub started : started_entry nums ≡ started_of h
  pub names_counted : name_count nums ≡ length (names h)
  pub cores_counted : core_count nums ≡ length (cores h)
  pub entries_counted : instance_count nums ≡ length (entries h)
  pub first : first_time ticks ≡ first_of h
  pub last : last_time ticks ≡ last_of h

-- ---- the row i of the name n

-- a core that is idle, or held by an instance of the name in a row
abbrev pub core_standing : List Event → Core → ℕ
core_standing h unknown = 0
core_standing h idle = idle_core
core_standing h (held x) = held_by (row_of h x.name)

abbrev pub the_semaphore : List ℕ → Instance
the_semaphore n = record { kind = semaphore; name = n; number = 0 }

-- the state m of a name of the kind k
pub record StandingShown (h : List Event) (n : List ℕ) (k m : ℕ) : Type 0 where
  pub of_core : eqb k core ≡ true → m ≡ core_standing h (core_at n h)
  pub of_semaphore : eqb k semaphore ≡ true → opened m ≡ state_of (the_semaphore n) h
  pub of_other : eqb k core ≡ false → eqb k semaphore ≡ false → m ≡ 0

-- the number of the last activation or start, or the last count
abbrev pub number_of : List Event → List ℕ → ℕ → Option ℕ
number_of h n k = cond (eqb k semaphore) (last_count n h) (last_number k n h)

pub record NameShown (h : List Event) (names nums : List ℕ) (i : ℕ) (n : List ℕ) : Type 0 where
  pub name : name_at names nums i ≡ n
  pub size : length_at nums i ≡ length n
  pub kind : kind_of n h ≡ Some (kind_at nums i)
  pub standing : StandingShown h n (kind_at nums i) (standing_at nums i)
  -- a core has no number of its own: the entry is free for that of the instance that holds it
  pub holder : (x : Instance) → core_at n h ≡ held x → number_at nums i ≡ x.number
  pub numbered : numbered_at nums i ≤ 1
  pub number : cond (eqb (numbered_at nums i) 0) None (Some (number_at nums i)) ≡ number_of h n (kind_at nums i)
  -- and of the first activation or start; a semaphore has none
  pub first_number_stands : eqb (kind_at nums i) semaphore ≡ false →
      cond (eqb (numbered_at nums i) 0) None (Some (first_number_at nums i)) ≡ first_number (kind_at nums i) n h

-- ---- the row j of the instance x

pub record InstanceShown (h : List Event) (nums : List ℕ) (j : ℕ) (x : Instance) : Type 0 where
  pub below : j < instance_count nums
  pub owner : owner_at nums j ≡ row_of h x.name
  pub number : instance_at nums j ≡ x.number
  pub state : opened (state_at nums j) ≡ state_of x h

-- the rows of the instances that need an entry, in any order: each of them has a row, each row that is counted is one's, and no two rows have the same name and number
pub record InstancesShown (h : List Event) (nums : List ℕ) : Type 0 where
  pub each : (x : Instance) → has_entry h x ≡ true → (j : ℕ) × InstanceShown h nums j x
  pub owned : (j : ℕ) → j < instance_count nums → (x : Instance) × (has_entry h x ≡ true) × InstanceShown h nums j x
  pub kept : (i j : ℕ) → i < instance_count nums → j < instance_count nums → owner_at nums i ≡ owner_at nums j → instance_at nums i ≡ instance_at nums j → i ≡ j

-- ---- the ticks in the row i of the name n: stored up to `since`, and from then on as the core stands

abbrev pub open_ticks : List Event → List ℕ → List ℕ → ℕ
open_ticks h ticks c = last_time ticks - since_at ticks (row_of h c)

pub record CoreTicks (h : List Event) (ticks : List ℕ) (i : ℕ) (n : List ℕ) : Type 0 where
  pub held_ticks_shown : held_at ticks i + is_held (core_at n h) * open_ticks h ticks n ≡ held_ticks n h
  pub idle_ticks_shown : idle_at ticks i + is_idle (core_at n h) * open_ticks h ticks n ≡ idle_ticks n h
  pub unknown_ticks_shown : unknown_at ticks i ≡ unknown_ticks n h
  pub since : since_at ticks i ≤ last_time ticks

-- what the process p holds at the end, over all names
abbrev pub open_charge : List Event → List ℕ → List ℕ → ℕ
open_charge h ticks p = sum_over (λ c. is_held_by p (core_at c h) * open_ticks h ticks c) (names h)

pub record OtherTicks (h : List Event) (ticks : List ℕ) (i : ℕ) (n : List ℕ) : Type 0 where
  pub charge_ticks : held_at ticks i + open_charge h ticks n ≡ charge n h
  pub no_idle : idle_at ticks i ≡ 0
  pub no_unknown : unknown_at ticks i ≡ 0
  pub no_since : since_at ticks i ≡ 0

pub record TicksShown (h : List Event) (ticks : List ℕ) (i : ℕ) (n : List ℕ) : Type 0 where
  pub of_core : kind_of n h ≡ Some core → CoreTicks h ticks i n
  pub of_other : (kind_of n h ≡ Some core → ⊥) → OtherTicks h ticks i n

-- ---- all of it

pub record Shown (h : List Event) (t : Tables) : Type 0 where
  pub sized : Sized t.names t.nums t.ticks
  pub singles : SinglesShown h t.nums t.ticks
  pub each_name : (n : List ℕ) → any (same_bytes n) (names h) ≡ true → NameShown h t.names t.nums (row_of h n) n
  pub instance_rows_shown : InstancesShown h t.nums
  pub each_ticks : (n : List ℕ) → any (same_bytes n) (names h) ≡ true → TicksShown h t.ticks (row_of h n) n
  -- the places: those that the rows by name give in their order
  pub indexed : places t.nums ≡ index_from t.names t.nums

-- of lines: the entries of the line level, and the events of the lines. The remembered verdict is apart.
pub record Shows (h : List (List ℕ)) (t : Tables) : Type 0 where
  pub place : place_in t.nums ≡ place_of h
  pub creator : creator_entry t.nums ≤ 1
  pub date : date_entry t.nums ≤ 1
  pub events : Shown (events_of h) t
