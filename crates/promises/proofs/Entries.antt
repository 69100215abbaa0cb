-- What each entry of nums is after an event line is taken: the value that the line stores, and otherwise the old one. For any nums of the right size:
-- nothing is asked of a history.
use mathlib.Core.Path.{◌≡◌, ◌∙◌}
use mathlib.Core.Bool.{false, not, ◌&&◌, cond}
use mathlib.Core.List.{List}
use Prim.Native.Nat.{ℕ, ◌+◌, ◌%◌, ◌^◌, ◌≤◌, ◌<◌}
use native.Mathlib.Omega.{arith}
use lib.Dec.{eqb}
use lib.ListN.{length, get_or}
use Rattle.rules.specs.Words.{core, semaphore}
use Rattle.rules.specs.Event.{Event}
use Rattle.rules.specs.Core.{no_core, gives_core}
use Rattle.rules.specs.History.{activates}
use Rattle.tables.specs.Entry.{idle_core, held_by, verdict_index, verdict_line_index, lines_index, scale_index, creator_index}
use Rattle.tables.specs.Entry.{date_index, started_index, names_index, cores_index, instances_index}
use Rattle.tables.specs.Entry.{name_rows, nums_size}
use Rattle.tables.specs.Entry.{kind_column, length_column, standing_column, number_column, numbered_column, first_number_column, owner_column, place_column}
use Rattle.tables.specs.Entry.{verdict_number, verdict_line, line_count, scale_entry, creator_entry, date_entry, started_entry, name_count, core_count, instance_count}
use Rattle.tables.specs.Entry.{kind_at, length_at, standing_at, number_at, numbered_at, first_number_at}
use Rattle.tables.proofs.Stores.{Outside}
use Rattle.lookup.specs.declared.look.LookedUp.{LookedUp}
use Rattle.lookup.specs.LookedUp.{new_core, new_name}
use Rattle.store.specs.Store.{core_row, target_row, store_number, with_rows, with_target, with_core, with_counts, taken_entries, taken_nums}
use Rattle.store.proofs.Stores.{length_with_rows, length_with_target, length_with_core, length_with_counts}
use Rattle.promises.proofs.RowStores.{row_kind, row_length, row_standing, row_number, row_numbered, row_first, number_number, number_numbered, Counts}
use Rattle.promises.proofs.Columns.{is_new_core, is_new_target, Fills, rows_stored, rows_beside, target_beside, target_standing, target_number, target_first}
use Rattle.promises.proofs.Columns.{core_beside, core_standing, core_number, counts_beside, counts_stored, entry_beside, places_beside}

-- ---- all the stores

-- a state, a number: of a row that is not new the old one, of a new one none
abbrev pub or_none : List ℕ → LookedUp → ℕ → ℕ → ℕ → ℕ
or_none nums s kind r v = cond (is_new_target nums s kind r) 0 (cond (is_new_core nums s r) 0 v)

module _ (nums : List ℕ) (z : length nums ≡ nums_size) (s : LookedUp) (t : ℕ) (e : Event) where
  -- after the new rows, after the target, after the core, after the counts
  abbrev filled : List ℕ
  filled = with_rows nums s e.kind (length e.source) (length e.target)

  abbrev aimed : List ℕ
  aimed = with_target filled (target_row nums s) t e.kind e.word e.target_instance e.count

  abbrev cored : List ℕ
  cored = with_core aimed s.class (core_row nums s) (target_row nums s) e.target_instance

  filled_size : length filled ≡ nums_size
  filled_size = length_with_rows nums s e.kind (length e.source) (length e.target) ∙ z

  aimed_size : length aimed ≡ nums_size
  aimed_size = length_with_target filled (target_row nums s) t e.kind e.word e.target_instance e.count ∙ filled_size

  cored_size : length cored ≡ nums_size
  cored_size = length_with_core aimed s.class (core_row nums s) (target_row nums s) e.target_instance ∙ aimed_size

  abbrev pub counted : List ℕ
  counted = with_counts cored (new_core s + new_name s e.kind) (new_core s)

  pub counted_size : length counted ≡ nums_size
  counted_size = length_with_counts cored (new_core s + new_name s e.kind) (new_core s) ∙ cored_size

  -- the places are stored to last, and no other entry with them
  pub from_entries : (j : ℕ) → j < place_column.base → get_or (taken_nums nums s t e) j 0 ≡ get_or (taken_entries nums s t e) j 0
  unfolding taken_nums
  from_entries j h = places_beside (taken_entries nums s t e) s e.kind (core_row nums s) (target_row nums s) e.source e.target j (λ l u. omega arith)

  -- an entry is not reached by the stores after its own: of a name's row, of an instance's, and a single one
  pub from_counted : (j : ℕ) → j < owner_column.base → (instances_index ≡ j → ⊥) → get_or (taken_nums nums s t e) j 0 ≡ get_or counted j 0
  unfolding taken_entries
  from_counted j h d = from_entries j (omega arith) ∙ entry_beside counted s.instance (target_row nums s) e.kind e.target_instance t j (λ l u. omega arith) d

  from_cored : (j : ℕ) → kind_column.base ≤ j → j < owner_column.base → get_or (taken_nums nums s t e) j 0 ≡ get_or cored j 0
  from_cored j h k = from_counted j k (λ q. omega arith) ∙ counts_beside cored _ _ j h

  from_aimed : (j : ℕ) → kind_column.base ≤ j → j < owner_column.base → Outside standing_column number_column j → get_or (taken_nums nums s t e) j 0 ≡ get_or aimed j 0
  from_aimed j h k out = from_cored j h k ∙ core_beside aimed s.class (core_row nums s) (target_row nums s) e.target_instance j out

  from_filled : (j : ℕ) → kind_column.base ≤ j → j < standing_column.base → get_or (taken_nums nums s t e) j 0 ≡ get_or filled j 0
  from_filled j h k =
      from_aimed j h (omega arith) (λ l u. omega arith)
      ∙ target_beside filled filled_size (target_row nums s) t e.kind e.word e.target_instance e.count j (λ l u. omega arith)

  -- ---- by name

  pub kind_taken : (r : ℕ) → r < name_rows →
      kind_at (taken_nums nums s t e) r ≡ cond (is_new_target nums s e.kind r) e.kind (cond (is_new_core nums s r) core (kind_at nums r))
  kind_taken r h =
      from_filled (kind_column.base + r) (omega arith) (omega arith)
      ∙ rows_stored nums z s e.kind (length e.source) (length e.target) kind_column.base (λ k c. k) row_kind r h

  pub length_taken : (r : ℕ) → r < name_rows →
      length_at (taken_nums nums s t e) r
      ≡ cond (is_new_target nums s e.kind r) (length e.target % 2 ^ 32) (cond (is_new_core nums s r) (length e.source % 2 ^ 32) (length_at nums r))
  length_taken r h =
      from_filled (length_column.base + r) (omega arith) (omega arith)
      ∙ rows_stored nums z s e.kind (length e.source) (length e.target) length_column.base (λ k c. c % 2 ^ 32) row_length r h

  pub standing_taken : (eqb s.class no_core ≡ false → target_row nums s < name_rows) → (r : ℕ) → r < name_rows →
      standing_at (taken_nums nums s t e) r
      ≡ cond (not (eqb s.class no_core) && eqb r (core_row nums s)) (cond (eqb s.class gives_core) idle_core (held_by (target_row nums s)))
      (cond (eqb e.kind semaphore && eqb r (target_row nums s)) t (or_none nums s e.kind r (standing_at nums r)))
  standing_taken k r h =
      from_cored (standing_column.base + r) (omega arith) (omega arith)
      ∙ core_standing aimed s.class (core_row nums s) (target_row nums s) e.target_instance aimed_size k r h
      ∙ rw (
        target_standing filled filled_size (target_row nums s) t e.kind e.word e.target_instance e.count r h,
        rows_stored nums z s e.kind (length e.source) (length e.target) standing_column.base (λ k c. 0) row_standing r h,
      )

  -- the count or number that the target is given, and otherwise the old entry
  abbrev given : ℕ → ℕ → ℕ → ℕ → ℕ
  given r count number old =
      cond (eqb e.kind semaphore && eqb r (target_row nums s)) count
      (cond (activates e.kind e.word && eqb r (target_row nums s)) number (or_none nums s e.kind r old))

  number_column_lem : (d : ℕ) (value : ℕ → ℕ) → Fills d (λ k c. 0) → Counts store_number d value → number_column.base ≤ d → d ≤ numbered_column.base → (r : ℕ) → r < name_rows →
      get_or aimed (d + r) 0 ≡ given r (value e.count) (value e.target_instance) (get_or nums (d + r) 0)
  number_column_lem d value f c lo hi r h =
      target_number filled filled_size (target_row nums s) t e.kind e.word e.target_instance e.count d value c lo hi r h
      ∙ rw (rows_stored nums z s e.kind (length e.source) (length e.target) d (λ k c. 0) f r h)

  pub number_taken : (eqb s.class no_core ≡ false → target_row nums s < name_rows) → (r : ℕ) → r < name_rows →
      let old = given r e.count e.target_instance (number_at nums r) in
      number_at (taken_nums nums s t e) r
      ≡ cond (not (eqb s.class no_core) && eqb r (core_row nums s)) (cond (eqb s.class gives_core) old e.target_instance) old
  number_taken k r h =
      from_cored (number_column.base + r) (omega arith) (omega arith)
      ∙ core_number aimed s.class (core_row nums s) (target_row nums s) e.target_instance aimed_size k r h
      ∙ rw (number_column_lem number_column.base (λ c. c) row_number number_number (omega arith) (omega arith) r h)

  pub numbered_taken : (r : ℕ) → r < name_rows → numbered_at (taken_nums nums s t e) r ≡ given r 1 1 (numbered_at nums r)
  numbered_taken r h =
      from_aimed (numbered_column.base + r) (omega arith) (omega arith) (λ l u. omega arith)
      ∙ number_column_lem numbered_column.base (λ c. 1) row_numbered number_numbered (omega arith) (omega arith) r h

  -- the first number that the target is given, where it has none
  pub first_taken : (r : ℕ) → r < name_rows →
      let old = or_none nums s e.kind r (first_number_at nums r) in
      first_number_at (taken_nums nums s t e) r
      ≡ cond (activates e.kind e.word && eqb r (target_row nums s)) (cond (eqb (or_none nums s e.kind r (numbered_at nums r)) 0) e.target_instance old) old
  first_taken r h =
      from_aimed (first_number_column.base + r) (omega arith) (omega arith) (λ l u. omega arith)
      ∙ target_first filled filled_size (target_row nums s) t e.kind e.word e.target_instance e.count r h
      ∙ rw (
        rows_stored nums z s e.kind (length e.source) (length e.target) numbered_column.base (λ k c. 0) row_numbered r h,
        rows_stored nums z s e.kind (length e.source) (length e.target) first_number_column.base (λ k c. 0) row_first r h,
      )

  -- ---- by instance: what was there, before the instance's own store

  pub rows_before : (j : ℕ) → owner_column.base ≤ j → get_or counted j 0 ≡ get_or nums j 0
  rows_before j h =
      counts_beside cored _ _ j (omega arith)
      ∙ core_beside aimed s.class (core_row nums s) (target_row nums s) e.target_instance j (λ l u. omega arith)
      ∙ target_beside filled filled_size (target_row nums s) t e.kind e.word e.target_instance e.count j (λ l u. omega arith)
      ∙ rows_beside nums z s e.kind (length e.source) (length e.target) j (λ l u. omega arith)

  -- ---- single entries

  cored_single : (j : ℕ) → j < kind_column.base → get_or cored j 0 ≡ get_or nums j 0
  cored_single j h =
      core_beside aimed s.class (core_row nums s) (target_row nums s) e.target_instance j (λ l u. omega arith)
      ∙ target_beside filled filled_size (target_row nums s) t e.kind e.word e.target_instance e.count j (λ l u. omega arith)
      ∙ rows_beside nums z s e.kind (length e.source) (length e.target) j (λ l u. omega arith)

  pub lines_taken : line_count (taken_nums nums s t e) ≡ (line_count nums + 1) % 2 ^ 32
  lines_taken = from_counted lines_index (omega arith) (λ q. omega (arith, q)) ∙ counts_stored cored _ _ cored_size lines_index ∙ rw (cored_single lines_index (omega arith))

  pub started_taken : started_entry (taken_nums nums s t e) ≡ 1
  started_taken = from_counted started_index (omega arith) (λ q. omega (arith, q)) ∙ counts_stored cored _ _ cored_size started_index

  pub names_taken : name_count (taken_nums nums s t e) ≡ (name_count nums + (new_core s + new_name s e.kind)) % 2 ^ 32
  names_taken = from_counted names_index (omega arith) (λ q. omega (arith, q)) ∙ counts_stored cored _ _ cored_size names_index ∙ rw (cored_single names_index (omega arith))

  pub cores_taken : core_count (taken_nums nums s t e) ≡ (core_count nums + new_core s) % 2 ^ 32
  cores_taken = from_counted cores_index (omega arith) (λ q. omega (arith, q)) ∙ counts_stored cored _ _ cored_size cores_index ∙ rw (cored_single cores_index (omega arith))

  -- before the instance's own store there are as many rows as there were
  pub count_before : instance_count counted ≡ instance_count nums
  count_before = counts_stored cored _ _ cored_size instances_index ∙ cored_single instances_index (omega arith)

  -- the remembered verdict, the scale and the two parameters: an event line does not touch them
  pub verdict_number_kept : verdict_number (taken_nums nums s t e) ≡ verdict_number nums
  verdict_number_kept = from_counted verdict_index (omega arith) (λ q. omega (arith, q)) ∙ counts_stored cored _ _ cored_size verdict_index ∙ cored_single verdict_index (omega arith)

  pub verdict_line_kept : verdict_line (taken_nums nums s t e) ≡ verdict_line nums
  verdict_line_kept = from_counted verdict_line_index (omega arith) (λ q. omega (arith, q)) ∙ counts_stored cored _ _ cored_size verdict_line_index ∙ cored_single verdict_line_index (omega arith)

  pub scale_kept : scale_entry (taken_nums nums s t e) ≡ scale_entry nums
  scale_kept = from_counted scale_index (omega arith) (λ q. omega (arith, q)) ∙ counts_stored cored _ _ cored_size scale_index ∙ cored_single scale_index (omega arith)

  pub creator_kept : creator_entry (taken_nums nums s t e) ≡ creator_entry nums
  creator_kept = from_counted creator_index (omega arith) (λ q. omega (arith, q)) ∙ counts_stored cored _ _ cored_size creator_index ∙ cored_single creator_index (omega arith)

  pub date_kept : date_entry (taken_nums nums s t e) ≡ date_entry nums
  date_kept = from_counted date_index (omega arith) (λ q. omega (arith, q)) ∙ counts_stored cored _ _ cored_size date_index ∙ cored_single date_index (omega arith)
