-- How tight the contract of the stores is: no second answer, and wrong tables that it shuts out.
use Rattle.std.proofs.Common.{◌≡◌, ℕ, eqb, [], ◌∷◌, refl, None}
use Rattle.text.proofs.Tight.{unique, ShutsOut, shut_out}
use Rattle.rules.specs.Core.{no_core}
use Rattle.rules.specs.Charts.{is_process}
use Rattle.rules.specs.Event.{Event}
use Rattle.rules.specs.History.{has_instances, is_tracked, activates}
use Rattle.tables.specs.Entry.{Tables, tables, line_count}
use Rattle.tables.specs.Sized.{is_sized}
use Rattle.lookup.specs.declared.look.LookedUp.{LookedUp}
use Rattle.store.specs.Store.{with_rows, with_target, with_core, with_counts, with_entry, with_places, taken_entries, taken_nums, taken_tables, stored}

pub take_unique : (t : Tables) (s : LookedUp) (state : ℕ) (e : Event) (x y : Tables) → x ≡ stored t s state e → y ≡ stored t s state e → x ≡ y
take_unique t s state = unique (stored t s state)

abbrev Given : Type 0
Given = Tables × LookedUp × Event

-- a line of a type that is not judged
abbrev unjudged : Event
unjudged = record { time = 0; source = []; source_instance = 0; kind = 0; target = []; target_instance = 0; word = 0; count = 0 }

abbrev unseen : LookedUp
unseen = record { class = no_core; source = None; target = None; instance = None }

-- it counts a line in a table of a wrong size too
pub take_not_any_size : ShutsOut {A = Given} (λ (t, s, e). stored t s 0 e) (λ (t, s, e). taken_tables t s 0 e)
unfolding stored is_sized taken_nums with_places taken_entries with_entry with_counts with_core with_target with_rows is_tracked has_instances activates is_process
take_not_any_size = shut_out (λ t. eqb (line_count t.nums) 0) (tables [] (0 ∷ 0 ∷ 0 ∷ []) [], unseen, unjudged) refl refl
