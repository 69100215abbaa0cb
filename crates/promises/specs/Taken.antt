-- What an event line finds in the tables that show a history.
use Rattle.std.specs.Prelude.{◌≡◌, true, false, not, List, ℕ, eqb, None, Some, Option}
use Rattle.text.specs.Bytes.{same_bytes}
use Rattle.rules.specs.Core.{no_core, core_class}
use Rattle.rules.specs.Event.{Event, Instance}
use Rattle.rules.specs.History.{has_instances, is_tracked, names, has_entry}
use Rattle.lookup.specs.declared.look.LookedUp.{LookedUp}
use Rattle.lookup.specs.LookedUp.{look_if, instance_in}
use Rattle.judge.specs.Feed.{Tables}
use Rattle.promises.specs.Places.{seek}
use Rattle.promises.specs.Shown.{InstanceShown}

-- the rows of the event's core and target, as the history has them; and that of its instance as the tables have it, wherever it lies
unfoldable pub looked_up_in : List Event → Tables → Event → LookedUp
looked_up_in h t e =
    let row = look_if (is_tracked e.kind) (seek (same_bytes e.target) (names h)) in
    record {
      class = core_class e.kind e.word;
      source = look_if (not (eqb (core_class e.kind e.word) no_core)) (seek (same_bytes e.source) (names h));
      target = row;
      instance = instance_in t.nums (has_instances e.kind) row e.target_instance;
    }

-- what is found of an instance: some row that shows it, or nothing and it has no entry
abbrev pub InstanceFound : List Event → List ℕ → Instance → Option ℕ → Type 0
InstanceFound h nums x (Some j) = (has_entry h x ≡ true) × InstanceShown h nums j x
InstanceFound h nums x None = has_entry h x ≡ false
