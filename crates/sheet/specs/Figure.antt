-- The figures of a row of the tables: the ticks stored up to `since`, and from then on as the core stands. Sums are taken modulo the width of an
-- entry: no table that a trace leads to has such sums.
use Rattle.std.specs.Prelude.{Bool, ◌&&◌, cond, List, ℕ, zero, suc, ◌+◌, ◌-◌, ◌%◌, ◌^◌, eqb, ltb}
use Rattle.rules.specs.Words.{core}
use Rattle.tables.specs.Entry.{idle_core, held_from, held_by, name_count, kind_at, standing_at, last_time, held_at, idle_at, since_at}

-- the ticks since then
unfoldable pub open_at : List ℕ → ℕ → ℕ
open_at ticks i = last_time ticks - since_at ticks i

-- "a core line gives held, idle, unknown", as the core's state says
unfoldable pub held_in : List ℕ → List ℕ → ℕ → ℕ
held_in nums ticks i = cond (ltb (standing_at nums i) held_from) (held_at ticks i) ((held_at ticks i + open_at ticks i) % 2 ^ 64)

unfoldable pub idle_in : List ℕ → List ℕ → ℕ → ℕ
idle_in nums ticks i = cond (eqb (standing_at nums i) idle_core) ((idle_at ticks i + open_at ticks i) % 2 ^ 64) (idle_at ticks i)

-- row k is a core that is held by an instance of the process in row i
unfoldable pub holds_core : List ℕ → ℕ → ℕ → Bool
holds_core nums i k = eqb (kind_at nums k) core && eqb (standing_at nums k) (held_by i)

-- "A process's charge": what is stored, and what is open on each core that it holds, of the first n rows
unfoldable pub charge_to : List ℕ → List ℕ → ℕ → ℕ → ℕ
charge_to nums ticks i zero = held_at ticks i
charge_to nums ticks i (suc k) = cond (holds_core nums i k) ((charge_to nums ticks i k + open_at ticks k) % 2 ^ 64) (charge_to nums ticks i k)

unfoldable pub charge_in : List ℕ → List ℕ → ℕ → ℕ
charge_in nums ticks i = charge_to nums ticks i (name_count nums)
