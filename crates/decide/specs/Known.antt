-- What the tables say of what the rules ask for: `Known` from the rows that were looked up.
use Rattle.std.specs.Prelude.{Bool, false, cond, ◌&&◌, List, ℕ, suc, ◌+◌, eqb, ltb, None, Some, Option, is_some}
use Rattle.rules.specs.Words.{semaphore}
use Rattle.rules.specs.Event.{Event, Instance, instance_of}
use Rattle.rules.specs.Core.{Core, unknown, idle, held}
use Rattle.rules.specs.Refusals.{Known}
use Rattle.steps.specs.Rows.{opened}
use Rattle.tables.specs.Entry.{Column, entry_at, kind_column, standing_column, number_column, numbered_column, first_number_column, state_column, started_entry, last_time, name_count, core_count, instance_count, idle_core, held_by}
use Rattle.lookup.specs.declared.look.LookedUp.{LookedUp}
use Rattle.lookup.specs.LookedUp.{new_core, new_name, above_in}

-- an entry of a column, in the row found; 0 where there is none
unfoldable pub entry_of : Column → List ℕ → Option ℕ → ℕ
entry_of c nums None = 0
entry_of c nums (Some i) = cond (ltb i c.rows) (entry_at c nums i) 0

-- the kind, the state, the last number, whether there is one, and the first, of the name in a row
abbrev pub kind_in : List ℕ → Option ℕ → ℕ
kind_in = entry_of kind_column

abbrev pub standing_in : List ℕ → Option ℕ → ℕ
standing_in = entry_of standing_column

abbrev pub number_in : List ℕ → Option ℕ → ℕ
number_in = entry_of number_column

abbrev pub numbered_in : List ℕ → Option ℕ → ℕ
numbered_in = entry_of numbered_column

abbrev pub first_number_in : List ℕ → Option ℕ → ℕ
first_number_in = entry_of first_number_column

-- the state of an event line's semaphore or instance
unfoldable pub state_in : List ℕ → LookedUp → ℕ → ℕ
state_in nums s k = cond (eqb k semaphore) (standing_in nums s.target) (entry_of state_column nums s.instance)

-- a number of the name in a row, where it has one
abbrev pub number_known : Column → List ℕ → Option ℕ → Option ℕ
number_known c nums f = cond (eqb (numbered_in nums f) 0) None (Some (entry_of c nums f))

-- the core as the tables have it: held by the event's own instance where its state and its number name that one, and otherwise by another
abbrev pub another : Instance → Instance
another x = record { kind = suc x.kind; name = x.name; number = x.number }

-- a core's state and number name the instance n of the name in a row
abbrev pub is_holder : ℕ → ℕ → Option ℕ → ℕ → Bool
is_holder standing number None n = false
is_holder standing number (Some p) n = eqb standing (held_by p) && eqb number n

unfoldable pub core_in : ℕ → ℕ → Option ℕ → Instance → Core
core_in standing number f x = cond (eqb standing 0) unknown (cond (eqb standing idle_core) idle (cond (is_holder standing number f x.number) (held x) (held (another x))))

unfoldable pub known_by : List ℕ → List ℕ → LookedUp → Event → Known
known_by nums ticks s e = record {
  time = cond (eqb (started_entry nums) 0) None (Some (last_time ticks));
  source_kind = opened (kind_in nums s.source);
  target_kind = opened (kind_in nums s.target);
  names = name_count nums + new_core s + new_name s e.kind;
  cores = core_count nums + new_core s;
  entries = instance_count nums;
  entry = is_some s.instance;
  state = opened (state_in nums s e.kind);
  number = number_known number_column nums s.target;
  first = number_known first_number_column nums s.target;
  above = above_in nums s.target e.target_instance;
  core = core_in (standing_in nums s.source) (number_in nums s.source) s.target (instance_of e);
  count = number_known number_column nums s.target;
}
