-- What is looked up in the tables for an event line: the rows of its core, its target and its instance.
use Rattle.std.specs.Prelude.{Bool, true, false, not, cond, List, ℕ, eqb, ltb, None, Some, Option, is_none}
use Rattle.rules.specs.Core.{no_core, core_class}
use Rattle.rules.specs.Event.{Event}
use Rattle.rules.specs.History.{has_instances, is_tracked}
use Rattle.tables.specs.Entry.{name_rows}
use Rattle.lookup.specs.Find.{find_name, find_instance, find_from}
use Rattle.lookup.specs.declared.look.LookedUp.{LookedUp}

abbrev pub look_if : Bool → Option ℕ → Option ℕ
look_if true f = f
look_if false f = None

abbrev pub instance_in : List ℕ → Bool → Option ℕ → ℕ → Option ℕ
instance_in nums false f n = None
instance_in nums true None n = None
instance_in nums true (Some i) n = cond (ltb i name_rows) (find_instance nums i n) None

-- by the event's kind, word, target instance, source and target
abbrev pub looked_up_for : List ℕ → List ℕ → ℕ → ℕ → ℕ → List ℕ → List ℕ → LookedUp
looked_up_for names nums kind word number source target =
    let row = look_if (is_tracked kind) (find_name names nums target) in
    record {
      class = core_class kind word;
      source = look_if (not (eqb (core_class kind word) no_core)) (find_name names nums source);
      target = row;
      instance = instance_in nums (has_instances kind) row number;
    }

unfoldable pub looked_up : List ℕ → List ℕ → Event → LookedUp
looked_up names nums e = looked_up_for names nums e.kind e.word e.target_instance e.source e.target

-- ---- the rows that a line adds

-- 1 where a row is needed and there is none yet
abbrev pub rows_added : Bool → Option ℕ → ℕ
rows_added false f = 0
rows_added true (Some i) = 0
rows_added true None = 1

abbrev pub new_core : LookedUp → ℕ
new_core s = rows_added (not (eqb s.class no_core)) s.source

abbrev pub new_name : LookedUp → ℕ → ℕ
new_name s k = rows_added (is_tracked k) s.target

-- ---- a number above all that the rows have of a name

abbrev pub above_in : List ℕ → Option ℕ → ℕ → Bool
above_in nums None n = true
above_in nums (Some i) n = cond (ltb i name_rows) (is_none (find_from nums i n)) true
