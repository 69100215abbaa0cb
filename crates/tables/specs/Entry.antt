-- Where each entry of the lent tables lies: the one place that names a base or a size. nums has single entries and then columns, one after another, and so
-- has ticks; names has 64 bytes for each name.
use Rattle.std.specs.Prelude.{List, ℕ, ◌+◌, ◌*◌, get_or, set, take, drop}
use Rattle.text.specs.Name.{name_most}
use Rattle.text.specs.Sizes.{name_limit}
use Rattle.rules.specs.Limits.{instance_limit}

-- the three tables
pub record Tables : Type 0 where
  pub names : List ℕ
  pub nums : List ℕ
  pub ticks : List ℕ

abbrev pub tables : List ℕ → List ℕ → List ℕ → Tables
tables names nums ticks = record { names = names; nums = nums; ticks = ticks }

-- ---- columns

-- a column of a table: its first entry, and one for each of so many rows
pub record Column : Type 0 where
  pub base : ℕ
  pub rows : ℕ

abbrev pub column : ℕ → ℕ → Column
column base rows = record { base = base; rows = rows }

-- the first entry past it: there the next one begins
abbrev pub past : Column → ℕ
past c = c.base + c.rows

-- the entry of a row, and a store to it
abbrev pub entry_at : Column → List ℕ → ℕ → ℕ
entry_at c t i = get_or t (c.base + i) 0

abbrev pub store_at : Column → List ℕ → ℕ → ℕ → List ℕ
store_at c t i v = set t (c.base + i) v

-- how many rows there are: one for each name and each instance that may be tracked; and "name, note | 1 to 64 bytes"
abbrev pub name_rows : ℕ
name_rows = name_limit

abbrev pub instance_rows : ℕ
instance_rows = instance_limit

abbrev pub name_room : ℕ
name_room = name_most

-- "Keep a lent index of 512 places" (02, No. 11)
abbrev pub place_rows : ℕ
place_rows = 512

-- ---- nums

-- the remembered verdict, the line level, and how many names, cores and instances there are
abbrev pub verdict_index : ℕ
verdict_index = 0

abbrev pub verdict_line_index : ℕ
verdict_line_index = 1

abbrev pub lines_index : ℕ
lines_index = 2

abbrev pub scale_index : ℕ
scale_index = 3

abbrev pub creator_index : ℕ
creator_index = 4

abbrev pub date_index : ℕ
date_index = 5

abbrev pub started_index : ℕ
started_index = 6

abbrev pub names_index : ℕ
names_index = 7

abbrev pub cores_index : ℕ
cores_index = 8

abbrev pub instances_index : ℕ
instances_index = 9

-- by name: its kind, its length, its state (a core's or a semaphore's), its last number or count (of a core the number of the instance that holds it),
-- whether it has a last one, and its first number
abbrev pub kind_column : Column
kind_column = column 10 name_rows

abbrev pub length_column : Column
length_column = column (past kind_column) name_rows

abbrev pub standing_column : Column
standing_column = column (past length_column) name_rows

abbrev pub number_column : Column
number_column = column (past standing_column) name_rows

abbrev pub numbered_column : Column
numbered_column = column (past number_column) name_rows

abbrev pub first_number_column : Column
first_number_column = column (past numbered_column) name_rows

-- what a core's state says: idle, or held by an instance of the name in row p; 0 is unknown, the state of none yet
abbrev pub idle_core : ℕ
idle_core = 1

abbrev pub held_from : ℕ
held_from = 2

abbrev pub held_by : ℕ → ℕ
held_by p = p + held_from

-- by instance: the row of its name, its number, its state
abbrev pub owner_column : Column
owner_column = column (past first_number_column) instance_rows

abbrev pub instance_column : Column
instance_column = column (past owner_column) instance_rows

abbrev pub state_column : Column
state_column = column (past instance_column) instance_rows

-- the index of the names, by place: 0 where it is free, else the row of a name and 1
abbrev pub place_column : Column
place_column = column (past state_column) place_rows

-- ---- ticks

-- the first and the last event time
abbrev pub first_index : ℕ
first_index = 0

abbrev pub last_index : ℕ
last_index = 1

-- by name: a core's held ticks or a process's charge, idle and unknown ticks, and the time up to which a core's ticks are counted
abbrev pub held_column : Column
held_column = column 2 name_rows

abbrev pub idle_column : Column
idle_column = column (past held_column) name_rows

abbrev pub unknown_column : Column
unknown_column = column (past idle_column) name_rows

abbrev pub since_column : Column
since_column = column (past unknown_column) name_rows

-- ---- the sizes

abbrev pub names_size : ℕ
names_size = name_room * name_rows

abbrev pub nums_size : ℕ
nums_size = past place_column

abbrev pub ticks_size : ℕ
ticks_size = past since_column

-- ---- single entries of nums: the remembered verdict, the line level, and how many names, cores and instances there are

abbrev pub verdict_number : List ℕ → ℕ
verdict_number nums = get_or nums verdict_index 0

abbrev pub verdict_line : List ℕ → ℕ
verdict_line nums = get_or nums verdict_line_index 0

abbrev pub line_count : List ℕ → ℕ
line_count nums = get_or nums lines_index 0

-- 0 none yet, else 1 to 5 for ps, ns, us, ms, s
abbrev pub scale_entry : List ℕ → ℕ
scale_entry nums = get_or nums scale_index 0

-- 1 once a creator, a creation date, an event was taken
abbrev pub creator_entry : List ℕ → ℕ
creator_entry nums = get_or nums creator_index 0

abbrev pub date_entry : List ℕ → ℕ
date_entry nums = get_or nums date_index 0

abbrev pub started_entry : List ℕ → ℕ
started_entry nums = get_or nums started_index 0

abbrev pub name_count : List ℕ → ℕ
name_count nums = get_or nums names_index 0

abbrev pub core_count : List ℕ → ℕ
core_count nums = get_or nums cores_index 0

abbrev pub instance_count : List ℕ → ℕ
instance_count nums = get_or nums instances_index 0

-- ---- columns of nums by name: its kind, its length, its state (a core's or a semaphore's), its last number or count, whether it has one, and its first
-- number

abbrev pub kind_at : List ℕ → ℕ → ℕ
kind_at = entry_at kind_column

abbrev pub length_at : List ℕ → ℕ → ℕ
length_at = entry_at length_column

abbrev pub standing_at : List ℕ → ℕ → ℕ
standing_at = entry_at standing_column

abbrev pub number_at : List ℕ → ℕ → ℕ
number_at = entry_at number_column

abbrev pub numbered_at : List ℕ → ℕ → ℕ
numbered_at = entry_at numbered_column

abbrev pub first_number_at : List ℕ → ℕ → ℕ
first_number_at = entry_at first_number_column

-- ---- columns of nums by instance: the row of its name, its number, its state

abbrev pub owner_at : List ℕ → ℕ → ℕ
owner_at = entry_at owner_column

abbrev pub instance_at : List ℕ → ℕ → ℕ
instance_at = entry_at instance_column

abbrev pub state_at : List ℕ → ℕ → ℕ
state_at = entry_at state_column

-- ---- the index in nums, all its places

abbrev pub places : List ℕ → List ℕ
places nums = take place_rows (drop place_column.base nums)

-- ---- ticks: the first and the last event time; by name a core's held ticks or a process's charge, idle and unknown ticks, and the time up
-- to which a core's ticks are counted

abbrev pub first_time : List ℕ → ℕ
first_time ticks = get_or ticks first_index 0

abbrev pub last_time : List ℕ → ℕ
last_time ticks = get_or ticks last_index 0

abbrev pub held_at : List ℕ → ℕ → ℕ
held_at = entry_at held_column

abbrev pub idle_at : List ℕ → ℕ → ℕ
idle_at = entry_at idle_column

abbrev pub unknown_at : List ℕ → ℕ → ℕ
unknown_at = entry_at unknown_column

abbrev pub since_at : List ℕ → ℕ → ℕ
since_at = entry_at since_column

-- ---- names: the bytes of row i

abbrev pub name_at : List ℕ → List ℕ → ℕ → List ℕ
name_at names nums i = take (length_at nums i) (drop (name_room * i) names)
