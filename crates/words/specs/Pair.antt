-- The type and the event that two fields name: "type unknown, or event not one of that type" is no pair.
use Rattle.std.specs.Prelude.{ℕ, List, None, Some, Option}
use Rattle.words.specs.declared.kind.Kind.{Kind}
use Rattle.words.specs.declared.action.Action.{Action}
use Rattle.words.specs.Kind.{kind_of}
use Rattle.words.specs.Action.{action_of}

abbrev pub pair_as : Kind → Option Action → Option (Kind × Action)
pair_as k (Some a) = Some (k, a)
pair_as k None = None

abbrev pub pair_with : Option Kind → List ℕ → Option (Kind × Action)
pair_with (Some k) action = pair_as k (action_of k action)
pair_with None action = None

unfoldable pub named_by : List ℕ → List ℕ → Option (Kind × Action)
named_by kind action = pair_with (kind_of kind) action
