-- What taking an event line stores. Rows past the end of a column are not stored, and sums are taken modulo the width of their entries: no
-- table that a trace leads to has such rows or sums, and none of any other can be written past its end.
use Rattle.std.specs.Prelude.{ℕ, ◌+◌, ◌-◌, ◌*◌, ◌%◌, ◌^◌, Bool, cond, not, ◌&&◌, List, length, ◌==◌, nat_le, nat_lt, slice_set, None, Some, Option}
use Rattle.text.specs.Put.{put}
use Rattle.rules.specs.Words.{core, semaphore, TERMINATED}
use Rattle.rules.specs.Core.{no_core, takes_core, gives_core}
use Rattle.rules.specs.Event.{Event}
use Rattle.rules.specs.History.{has_instances, activates}
use Rattle.tables.specs.Entry.{Tables, tables, store_at, name_rows, instance_rows, place_rows, name_room, lines_index, started_index, names_index, cores_index, instances_index, first_index, last_index}
use Rattle.tables.specs.Entry.{kind_column, length_column, standing_column, number_column, numbered_column, first_number_column, owner_column, instance_column, state_column, held_column, idle_column, unknown_column, since_column, place_column}
use Rattle.tables.specs.Entry.{idle_core, held_by, line_count, started_entry, name_count, core_count, instance_count, numbered_at, first_number_at, owner_at, instance_at, state_at, first_time, held_at, idle_at, since_at, places}
use Rattle.tables.specs.Sized.{is_sized}
use Rattle.index.specs.Hash.{home_of}
use Rattle.index.specs.Index.{free}
use Rattle.lookup.specs.declared.look.LookedUp.{LookedUp}
use Rattle.lookup.specs.LookedUp.{new_core, new_name}

-- ---- the rows: those found, and otherwise the next ones

abbrev pub row_or : Option ℕ → ℕ → ℕ
row_or (Some i) n = i
row_or None n = n

unfoldable pub core_row : List ℕ → LookedUp → ℕ
core_row nums s = row_or s.source (name_count nums)

unfoldable pub target_row : List ℕ → LookedUp → ℕ
target_row nums s = row_or s.target (name_count nums + new_core s)

-- ---- single stores

-- a new name: its bytes, its kind and length, no state, no numbers
unfoldable pub store_name : List ℕ → ℕ → List ℕ → List ℕ
store_name names i name = cond (nat_lt i name_rows) (put names (name_room * i) name).output names

unfoldable pub store_row : List ℕ → ℕ → ℕ → ℕ → List ℕ
store_row nums i kind n =
    cond (nat_lt i name_rows)
    (let one = store_at length_column (store_at kind_column nums i kind) i (n % 2 ^ 32) in
    store_at first_number_column (store_at numbered_column (store_at number_column (store_at standing_column one i 0) i 0) i 0) i 0)
    nums

-- the row i of a new name into the index, from its home on: "with the next free place tried on a clash" (02, No. 11)
unfoldable pub store_place : List ℕ → ℕ → ℕ → List ℕ
store_place nums i home =
    let p = free (places nums) home in
    cond (nat_lt i name_rows && nat_lt p place_rows) (store_at place_column nums p (i + 1)) nums

-- a new name's ticks: none held or idle, and for a core those before it was tracked unknown
unfoldable pub store_sums : List ℕ → ℕ → ℕ → ℕ → List ℕ
store_sums ticks i unknown since =
    cond (nat_lt i name_rows) (store_at since_column (store_at unknown_column (store_at idle_column (store_at held_column ticks i 0) i 0) i unknown) i since) ticks

-- an instance: the row of its name, its number, its state
unfoldable pub store_instance : List ℕ → ℕ → ℕ → ℕ → ℕ → List ℕ
store_instance nums j owner number state =
    cond (nat_lt j instance_rows && nat_lt owner name_rows) (store_at state_column (store_at instance_column (store_at owner_column nums j owner) j number) j state) nums

-- a state of a semaphore or core
unfoldable pub store_standing : List ℕ → ℕ → ℕ → List ℕ
store_standing nums i standing = cond (nat_lt i name_rows) (store_at standing_column nums i standing) nums

-- the holder of a core: the row of its name, and its number
unfoldable pub store_holder : List ℕ → ℕ → ℕ → ℕ → List ℕ
store_holder nums i p n = cond (nat_lt i name_rows && nat_lt p name_rows) (store_at number_column (store_at standing_column nums i (held_by p)) i n) nums

-- a last number or count
unfoldable pub store_number : List ℕ → ℕ → ℕ → List ℕ
store_number nums i n = cond (nat_lt i name_rows) (store_at numbered_column (store_at number_column nums i n) i 1) nums

-- the number of an activation or start: the last one, and where there was none the first
unfoldable pub store_activation : List ℕ → ℕ → ℕ → List ℕ
store_activation nums i n =
    cond (nat_lt i name_rows) (store_number (cond (numbered_at nums i == 0) (store_at first_number_column nums i n) nums) i n) nums

-- ---- the row of an instance

-- "a TERMINATED instance numbered at or above its entity's first activating number (start, for a runnable) needs no entry" (02, No. 7): the instance n, in the state t, of
-- the name in row i
unfoldable pub needs_row : List ℕ → ℕ → ℕ → ℕ → Bool
needs_row nums i n t = not (t == TERMINATED && (nat_lt i name_rows && (not (numbered_at nums i == 0) && nat_le (first_number_at nums i) n)))

-- stored in the row found, or in the next one, which is counted where there is one
unfoldable pub put_row : List ℕ → Option ℕ → ℕ → ℕ → ℕ → List ℕ
put_row nums (Some j) i n t = store_instance nums j i n t
put_row nums None i n t =
    cond (nat_lt (instance_count nums) instance_rows) (slice_set (store_instance nums (instance_count nums) i n t) instances_index (instance_count nums + 1)) nums

-- "Give its room back at once": the last row moves into the row j, and there is one less. A core names its holder by name and number, so nothing else moves.
unfoldable pub given_back : List ℕ → ℕ → List ℕ
given_back nums j =
    let last = instance_count nums - 1 in
    cond (nat_lt j instance_rows && (not (instance_count nums == 0) && nat_le (instance_count nums) instance_rows))
    (let one = store_at instance_column (store_at owner_column nums j (owner_at nums last)) j (instance_at nums last) in
    slice_set (store_at state_column one j (state_at nums last)) instances_index last)
    nums

-- where there is a row
unfoldable pub without_row : List ℕ → Option ℕ → List ℕ
without_row nums (Some j) = given_back nums j
without_row nums None = nums

-- what is kept of the event's instance
unfoldable pub with_entry : List ℕ → Option ℕ → ℕ → ℕ → ℕ → ℕ → List ℕ
with_entry nums f i kind n t = cond (has_instances kind) (cond (needs_row nums i n t) (put_row nums f i n t) (without_row nums f)) nums

-- ---- the three tables after an event line

unfoldable pub taken_names : List ℕ → List ℕ → LookedUp → ℕ → List ℕ → List ℕ → List ℕ
taken_names names nums s kind source target =
    let one = cond (new_core s == 1) (store_name names (name_count nums) source) names in
    cond (new_name s kind == 1) (store_name one (target_row nums s) target) one

-- the rows of new names, of n and m bytes
unfoldable pub with_rows : List ℕ → LookedUp → ℕ → ℕ → ℕ → List ℕ
with_rows nums s kind n m =
    let one = cond (new_core s == 1) (store_row nums (name_count nums) core n) nums in
    cond (new_name s kind == 1) (store_row one (target_row nums s) kind m) one

-- what the event's target is from now on: a semaphore's state t and count c, the number n of an activation
unfoldable pub with_target : List ℕ → ℕ → ℕ → ℕ → ℕ → ℕ → ℕ → List ℕ
with_target nums i t kind word n c =
    cond (kind == semaphore) (store_number (store_standing nums i t) i c) (cond (activates kind word) (store_activation nums i n) nums)

-- "make it held" by the instance n of the process in row p, "make it idle": an idle core's number stays as it was, and nothing looks at it
unfoldable pub with_core : List ℕ → ℕ → ℕ → ℕ → ℕ → List ℕ
with_core nums class i p n = cond (class == no_core) nums (cond (class == gives_core) (store_standing nums i idle_core) (store_holder nums i p n))

unfoldable pub with_counts : List ℕ → ℕ → ℕ → List ℕ
with_counts nums names cores =
    let one = slice_set (slice_set nums lines_index ((line_count nums + 1) % 2 ^ 32)) started_index 1 in
    slice_set (slice_set one names_index ((name_count nums + names) % 2 ^ 32)) cores_index ((core_count nums + cores) % 2 ^ 32)

-- the places of new names, in the rows i and p: the source's before the target's
unfoldable pub with_places : List ℕ → LookedUp → ℕ → ℕ → ℕ → List ℕ → List ℕ → List ℕ
with_places nums s kind i p source target =
    let one = cond (new_core s == 1) (store_place nums i (home_of source)) nums in
    cond (new_name s kind == 1) (store_place one p (home_of target)) one

-- all but the places
unfoldable pub taken_entries : List ℕ → LookedUp → ℕ → Event → List ℕ
taken_entries nums s t e =
    let n = e.target_instance in
    let one = with_rows nums s e.kind (length e.source) (length e.target) in
    let two = with_target one (target_row nums s) t e.kind e.word n e.count in
    let three = with_counts (with_core two s.class (core_row nums s) (target_row nums s) n) (new_core s + new_name s e.kind) (new_core s) in
    with_entry three s.instance (target_row nums s) e.kind n t

unfoldable pub taken_nums : List ℕ → LookedUp → ℕ → Event → List ℕ
taken_nums nums s t e = with_places (taken_entries nums s t e) s e.kind (core_row nums s) (target_row nums s) e.source e.target

-- the ticks from `since` on go to the core's sum, and those it was held also to its holder's charge
unfoldable pub settled : List ℕ → ℕ → ℕ → ℕ → ℕ → List ℕ
settled ticks class i p time =
    cond (nat_lt i name_rows && nat_lt p name_rows)
    (cond (class == takes_core) (store_at since_column (store_at idle_column ticks i ((idle_at ticks i + (time - since_at ticks i)) % 2 ^ 64)) i time)
    (cond (class == gives_core)
    (let one = store_at held_column ticks i ((held_at ticks i + (time - since_at ticks i)) % 2 ^ 64) in
    store_at since_column (store_at held_column one p ((held_at one p + (time - since_at ticks i)) % 2 ^ 64)) i time)
    ticks))
    ticks

unfoldable pub with_times : List ℕ → ℕ → ℕ → List ℕ
with_times ticks started time = cond (started == 0) (slice_set (slice_set ticks first_index time) last_index time) (slice_set ticks last_index time)

unfoldable pub with_sums : List ℕ → List ℕ → LookedUp → ℕ → ℕ → List ℕ
with_sums ticks nums s kind time =
    let unknown = cond (started_entry nums == 0) 0 (time - first_time ticks) in
    let one = cond (new_core s == 1) (store_sums ticks (name_count nums) unknown time) ticks in
    cond (new_name s kind == 1) (store_sums one (target_row nums s) 0 0) one

unfoldable pub taken_ticks : List ℕ → List ℕ → LookedUp → ℕ → ℕ → List ℕ
taken_ticks ticks nums s kind time =
    with_times (settled (with_sums ticks nums s kind time) s.class (core_row nums s) (target_row nums s) time) (started_entry nums) time

-- ---- all three

-- the event's semaphore or instance enters the state t
abbrev pub taken_tables : Tables → LookedUp → ℕ → Event → Tables
taken_tables u s t e =
    tables
    (taken_names u.names u.nums s e.kind e.source e.target)
    (taken_nums u.nums s t e)
    (taken_ticks u.ticks u.nums s e.kind e.time)

-- of any tables: where one has a wrong size, nothing changes
unfoldable pub stored : Tables → LookedUp → ℕ → Event → Tables
stored u s t e = cond (is_sized (length u.names) (length u.nums) (length u.ticks)) (taken_tables u s t e) u
