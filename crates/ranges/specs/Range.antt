-- 15: "lent output or table of the wrong size". 16: "table holding an index, state, kind, count, name or time outside its range, a first time
-- above the last, or a tick sum above 2^62".
use Rattle.std.specs.Prelude.{Bool, true, ◌&&◌, ◌||◌, cond, List, ℕ, zero, suc, ◌-◌, ◌≤◌, eqb, leb, ltb, length}
use Rattle.text.specs.Bytes.{same_bytes}
use Rattle.text.specs.Name.{is_name}
use Rattle.text.specs.Sizes.{max_time, core_limit}
use Rattle.rules.specs.Words.{core, semaphore}
use Rattle.rules.specs.Limits.{verdict_line_limit, line_limit, last_refusal}
use Rattle.rules.specs.Chart.{is_state_of}
use Rattle.rules.specs.Charts.{is_process, chart_of}
use Rattle.rules.specs.History.{has_instances}
use Rattle.tables.specs.Entry.{name_rows, instance_rows, name_room, idle_core, held_from}
use Rattle.tables.specs.Entry.{verdict_number, verdict_line, line_count, scale_entry, creator_entry, date_entry, started_entry, name_count, core_count, instance_count}
use Rattle.tables.specs.Entry.{kind_at, length_at, standing_at, numbered_at, owner_at, state_at, first_time, last_time, held_at, idle_at, unknown_at, since_at, name_at, places}
use Rattle.tables.specs.Sized.{is_sized}
use Rattle.index.specs.Index.{index_from}

-- the verdict is one that is remembered, at a line up to the one past the last; at most 1,000,000,000 lines; the line level's entries
unfoldable pub line_level_ok : List ℕ → Bool
line_level_ok nums =
    leb (verdict_number nums) last_refusal
    && (leb (verdict_line nums) verdict_line_limit
    && (leb (line_count nums) line_limit && (leb (scale_entry nums) 5 && (leb (creator_entry nums) 1 && leb (date_entry nums) 1))))

-- "tracked names (cores, T, I, R, SEM) | 256, of them 64 cores"; "process and runnable instances | 1,024"
unfoldable pub counts_ok : List ℕ → Bool
counts_ok nums = leb (started_entry nums) 1 && (leb (name_count nums) name_rows && (leb (core_count nums) core_limit && leb (instance_count nums) instance_rows))

-- what the code needs before it looks at rows: every row that is counted is there
pub record Counted (nums : List ℕ) : Type 0 where
  pub names : name_count nums ≤ name_rows
  pub instances : instance_count nums ≤ instance_rows

-- "time | 72,057,594,037,927,935 (2^56 − 1)"; "a first time above the last"
unfoldable pub times_ok : List ℕ → Bool
times_ok ticks = leb (last_time ticks) max_time && leb (first_time ticks) (last_time ticks)

-- an instance of the name in row p can hold a core: the name is there, and a process's ("one process instance at a time")
unfoldable pub holder_ok : List ℕ → ℕ → Bool
holder_ok nums p = ltb p (name_count nums) && is_process (kind_at nums p)

-- the state of a core: idle, 1, or held by an instance of the process in row p, 2 + p. The instance's number, which lies in the core's own entry of
-- numbers, may be any, and whether that instance has a row is not asked: 16 asks what an entry is by itself and what it points to.
unfoldable pub core_ok : List ℕ → ℕ → Bool
core_ok nums standing = cond (ltb standing held_from) (eqb standing idle_core) (holder_ok nums (standing - held_from))

-- the state of a name by its kind: a core's; of a semaphore none yet, 0, or one of its chart's; any other name has none
unfoldable pub standing_ok : List ℕ → ℕ → ℕ → Bool
standing_ok nums kind standing = cond (eqb kind core) (core_ok nums standing) (cond (eqb kind semaphore) (eqb standing 0 || is_state_of (chart_of semaphore) standing) (eqb standing 0))

-- "a tick sum above 2^62"
abbrev pub max_sum : ℕ
max_sum = 0x4000_0000_0000_0000

unfoldable pub sums_ok : List ℕ → ℕ → Bool
sums_ok ticks i = leb (held_at ticks i) max_sum && (leb (idle_at ticks i) max_sum && (leb (unknown_at ticks i) max_sum && leb (since_at ticks i) (last_time ticks)))

unfoldable pub bytes_ok : List ℕ → List ℕ → ℕ → Bool
bytes_ok names nums i = leb (length_at nums i) name_room && is_name (name_at names nums i)

-- the row of name i
unfoldable pub name_ok : List ℕ → List ℕ → List ℕ → ℕ → Bool
name_ok names nums ticks i =
    leb core (kind_at nums i)
    && (leb (kind_at nums i) semaphore
    && (leb (numbered_at nums i) 1 && (standing_ok nums (kind_at nums i) (standing_at nums i) && (bytes_ok names nums i && sums_ok ticks i))))

-- the row of instance j: the row of its name, a process's or a runnable's, and one of the states of that kind's chart
unfoldable pub instance_ok : List ℕ → ℕ → Bool
instance_ok nums j =
    ltb (owner_at nums j) (name_count nums)
    && (has_instances (kind_at nums (owner_at nums j)) && is_state_of (chart_of (kind_at nums (owner_at nums j))) (state_at nums j))

-- "An index other than the table's names give in order is 16" (02, No. 11)
unfoldable pub index_ok : List ℕ → List ℕ → Bool
index_ok names nums = same_bytes (places nums) (index_from names nums)

-- the test passes at each number below n
unfoldable pub up_to : (ℕ → Bool) → ℕ → Bool
up_to f zero = true
up_to f (suc n) = up_to f n && f n

unfoldable pub in_range : List ℕ → List ℕ → List ℕ → Bool
in_range names nums ticks =
    line_level_ok nums
    && (counts_ok nums
    && (times_ok ticks && (up_to (name_ok names nums ticks) (name_count nums) && (up_to (instance_ok nums) (instance_count nums) && index_ok names nums))))

-- "the judge tests 15 and 16 before all others, 15 first"
unfoldable pub table_answer : List ℕ → List ℕ → List ℕ → ℕ
table_answer names nums ticks = cond (is_sized (length names) (length nums) (length ticks)) (cond (in_range names nums ticks) 0 16) 15
