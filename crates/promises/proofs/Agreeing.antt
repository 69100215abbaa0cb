-- Tables whose nums agree from the event level's entries on show the same events: the entries before these, of the line level, say nothing of events.
use Rattle.std.proofs.Common.{Some}
use mathlib.Core.Path.{◌≡◌, sym, ap, ◌∙◌}
use mathlib.Core.List.{List}
use Prim.Native.Nat.{ℕ, ◌+◌, ◌*◌, ◌≤◌}
use native.Mathlib.Omega.{arith}
use lib.ListN.{length, get_or, take, drop}
use Rattle.rules.specs.Event.{Event, Instance}
use Rattle.steps.specs.Rows.{opened}
use Rattle.tables.specs.Entry.{name_room, started_index, names_index, cores_index, instances_index, instance_count, owner_at, instance_at, name_at, places, nums_size}
use Rattle.tables.specs.Entry.{kind_column, length_column, standing_column, number_column, numbered_column, first_number_column, owner_column, instance_column, state_column}
use Rattle.index.specs.Index.{index_of, home_at, index_from}
use Rattle.index.proofs.Indexes.{same_places, index_names}
use Rattle.judge.specs.Feed.{tables}
use Rattle.promises.specs.Shown.{SinglesShown, NameShown, InstanceShown, InstancesShown, Shown}

-- every entry from the index i on is the same
abbrev pub AgreeFrom : ℕ → List ℕ → List ℕ → Type 0
AgreeFrom i nums nums' = (j : ℕ) → i ≤ j → get_or nums' j 0 ≡ get_or nums j 0

module _ (h : List Event) (names nums nums' ticks : List ℕ) (g : AgreeFrom started_index nums nums') where
  singles_later : SinglesShown h nums ticks → SinglesShown h nums' ticks
  singles_later s = record {
    started = g started_index (omega arith) ∙ s.started;
    names_counted = g names_index (omega arith) ∙ s.names_counted;
    cores_counted = g cores_index (omega arith) ∙ s.cores_counted;
    entries_counted = g instances_index (omega arith) ∙ s.entries_counted;
    first = s.first;
    last = s.last;
  }

  bytes_later : (i : ℕ) → name_at names nums' i ≡ name_at names nums i
  bytes_later i = ap (λ m. take m (drop (name_room * i) names)) (g (length_column.base + i) (omega arith))

  name_later : (i : ℕ) (n : List ℕ) → NameShown h names nums i n → NameShown h names nums' i n
  name_later i n s =
      let k = g (kind_column.base + i) (omega arith) in
      let d = g (numbered_column.base + i) (omega arith) in
      record {
        name = bytes_later i ∙ s.name;
        size = g (length_column.base + i) (omega arith) ∙ s.size;
        kind = s.kind ∙ ap Some (sym k);
        standing = rw (k, g (standing_column.base + i) (omega arith)) s.standing;
        holder = λ x q. g (number_column.base + i) (omega arith) ∙ s.holder x q;
        numbered = rw d s.numbered;
        number = rw (d, g (number_column.base + i) (omega arith), k) s.number;
        first_number_stands = rw (d, g (first_number_column.base + i) (omega arith), k) s.first_number_stands;
      }

  count_later : instance_count nums' ≡ instance_count nums
  count_later = g instances_index (omega arith)

  owner_later : (j : ℕ) → owner_at nums' j ≡ owner_at nums j
  owner_later j = g (owner_column.base + j) (omega arith)

  number_later : (j : ℕ) → instance_at nums' j ≡ instance_at nums j
  number_later j = g (instance_column.base + j) (omega arith)

  instance_later : (j : ℕ) (x : Instance) → InstanceShown h nums j x → InstanceShown h nums' j x
  instance_later j x s = record {
    below = rw count_later s.below;
    owner = owner_later j ∙ s.owner;
    number = number_later j ∙ s.number;
    state = ap opened (g (state_column.base + j) (omega arith)) ∙ s.state;
  }

  instances_later : InstancesShown h nums → InstancesShown h nums'
  instances_later s = record {
    each = λ x m. let r = s.each x m in (r.0, instance_later r.0 x r.1);
    owned = λ j b. let r = s.owned j (rw count_later at b) in (r.0, r.1, instance_later j r.0 r.2);
    kept = λ i j b d o n.
        s.kept i j (rw count_later at b) (rw count_later at d) (sym (owner_later i) ∙ o ∙ owner_later j) (sym (number_later i) ∙ n ∙ number_later j);
  }

  -- the places and the rows' names are as they were
  index_later : length nums ≡ nums_size → length nums' ≡ nums_size → places nums ≡ index_from names nums → places nums' ≡ index_from names nums'
  unfolding index_from
  index_later z z' e =
      same_places nums nums' z z' (λ j b. g j (omega arith))
      ∙ e
      ∙ sym (ap (index_of (home_at names nums')) (g names_index (omega arith)) ∙ index_names names nums names nums' (λ r b. bytes_later r))

  pub shown_later : length nums' ≡ length nums → Shown h (tables names nums ticks) → Shown h (tables names nums' ticks)
  shown_later z s = record {
    sized = record { names_sized = s.sized.names_sized; nums_sized = z ∙ s.sized.nums_sized; ticks_sized = s.sized.ticks_sized };
    singles = singles_later s.singles;
    each_name = λ n m. name_later _ n (s.each_name n m);
    instance_rows_shown = instances_later s.instance_rows_shown;
    each_ticks = s.each_ticks;
    indexed = index_later s.sized.nums_sized (z ∙ s.sized.nums_sized) s.indexed;
  }
