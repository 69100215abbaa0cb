-- The stores of an event line to nums, one after another: new rows, the target's state and number, the core's state and its holder's number, the counts, what is kept of the
-- instance, and the places of new names. Each entry has the value that is stored to it, and every other one is as it was.
use Rattle.std.proofs.Common.{None, Some, Option}
use mathlib.Core.Path.{◌≡◌, refl, sym, ap, ◌∙◌}
use mathlib.Core.Bool.{Bool, true, false, not, ◌&&◌, cond}
use mathlib.Core.List.{List}
use Prim.Native.Nat.{ℕ, ◌+◌, ◌%◌, ◌^◌, ◌≤◌, ◌<◌}
use native.Mathlib.Omega.{arith}
use lib.Dec.{eqb, ltb}
use lib.ListN.{length, get_or, set, length-set}
use borrow.Author.Tests.{ltb-true}
use Rattle.rules.specs.Words.{core, semaphore}
use Rattle.rules.specs.Core.{no_core, gives_core}
use Rattle.rules.specs.History.{has_instances, activates}
use Rattle.tables.specs.Entry.{idle_core, held_by, name_rows, instance_rows, nums_size, lines_index, started_index, names_index, cores_index, instances_index}
use Rattle.tables.specs.Entry.{kind_column, standing_column, number_column, numbered_column, first_number_column, owner_column, state_column, place_column}
use Rattle.tables.specs.Entry.{line_count, name_count, core_count, instance_count}
use Rattle.tables.specs.Entry.{standing_at, number_at, numbered_at, first_number_at}
use Rattle.tables.proofs.Stores.{other, single, Outside}
use Rattle.index.specs.Hash.{home_of}
use Rattle.lookup.specs.declared.look.LookedUp.{LookedUp}
use Rattle.lookup.specs.LookedUp.{new_core, new_name}
use Rattle.store.specs.Store.{target_row, store_row, store_place, store_instance, store_standing, store_holder, store_number, store_activation}
use Rattle.store.specs.Store.{needs_row, put_row, without_row, with_entry, with_rows, with_target, with_core, with_counts, with_places}
use Rattle.store.proofs.Stores.{length_store_row, length_store_standing}
use Rattle.promises.proofs.Choices.{same_choice}
use Rattle.promises.proofs.KindTests.{no_activation}
use Rattle.promises.proofs.RowStores.{length_if, entry_if, kept_if, made, standing_standing, holder_standing, holder_number, row_beside, standing_beside}
use Rattle.promises.proofs.RowStores.{holder_beside, number_beside, instance_beside, given_beside, place_beside, activation_beside, Counts, activation_counts, activation_first}

-- ---- the rows of new names

-- the row r is that of the line's new core, or of its new target
abbrev pub is_new_core : List ℕ → LookedUp → ℕ → Bool
is_new_core nums s r = eqb (new_core s) 1 && eqb r (name_count nums)

abbrev pub is_new_target : List ℕ → LookedUp → ℕ → ℕ → Bool
is_new_target nums s kind r = eqb (new_name s kind) 1 && eqb r (target_row nums s)

-- what a new row has in the column from d on, by its kind and length
abbrev pub Fills : ℕ → (ℕ → ℕ → ℕ) → Type 0
Fills d value = (l : List ℕ) → length l ≡ nums_size → (i r : ℕ) → r < name_rows → (kind n : ℕ) →
    get_or (store_row l i kind n) (d + r) 0 ≡ cond (eqb r i) (value kind n) (get_or l (d + r) 0)

module _ (nums : List ℕ) (z : length nums ≡ nums_size) (s : LookedUp) (kind n m : ℕ) where
  pub rows_stored : (d : ℕ) (value : ℕ → ℕ → ℕ) → Fills d value → (r : ℕ) → r < name_rows →
      get_or (with_rows nums s kind n m) (d + r) 0
      ≡ cond (is_new_target nums s kind r) (value kind m) (cond (is_new_core nums s r) (value core n) (get_or nums (d + r) 0))
  unfolding with_rows
  rows_stored d value f r h =
      let first = store_row nums (name_count nums) core n in
      let one = cond (eqb (new_core s) 1) first nums in
      let y : length one ≡ nums_size = length_if (eqb (new_core s) 1) first nums (length_store_row nums (name_count nums) core n) ∙ z in
      made (eqb (new_name s kind) 1) (eqb r (target_row nums s)) (store_row one (target_row nums s) kind m) one (d + r) (value kind m)
      (λ t. f one y (target_row nums s) r h kind m)
      ∙ ap (cond (is_new_target nums s kind r) (value kind m))
      (made (eqb (new_core s) 1) (eqb r (name_count nums)) first nums (d + r) (value core n) (λ t. f nums z (name_count nums) r h core n))

  pub rows_beside : (j : ℕ) → Outside kind_column first_number_column j → get_or (with_rows nums s kind n m) j 0 ≡ get_or nums j 0
  unfolding with_rows
  rows_beside j out =
      let one = cond (eqb (new_core s) 1) (store_row nums (name_count nums) core n) nums in
      kept_if (eqb (new_name s kind) 1) (store_row one (target_row nums s) kind m) one j (λ t. row_beside one (target_row nums s) j kind m out)
      ∙ kept_if (eqb (new_core s) 1) _ nums j (λ t. row_beside nums (name_count nums) j core n out)

-- ---- the state and number of the target

module _ (nums : List ℕ) (z : length nums ≡ nums_size) (i t kind word n c : ℕ) where
  -- after the number of an activation
  abbrev one : List ℕ
  one = cond (activates kind word) (store_activation nums i n) nums

  one_beside : (x : ℕ) → Outside number_column first_number_column x → get_or one x 0 ≡ get_or nums x 0
  one_beside x out = kept_if (activates kind word) _ nums x (λ e. activation_beside nums i x n out)

  pub target_beside : (x : ℕ) → Outside standing_column first_number_column x → get_or (with_target nums i t kind word n c) x 0 ≡ get_or nums x 0
  unfolding with_target
  target_beside x out =
      entry_if (eqb kind semaphore) (store_number (store_standing nums i t) i c) one x
      (λ e. number_beside (store_standing nums i t) i x c (λ l u. out (omega arith) (omega arith))
      ∙ standing_beside nums i x t (λ l u. out (omega arith) (omega arith)))
      (λ e. one_beside x (λ l u. out (omega arith) (omega arith)))

  pub target_standing : (r : ℕ) → r < name_rows → standing_at (with_target nums i t kind word n c) r ≡ cond (eqb kind semaphore && eqb r i) t (standing_at nums r)
  unfolding with_target
  target_standing r h =
      entry_if (eqb kind semaphore) (store_number (store_standing nums i t) i c) one (standing_column.base + r)
      (λ e. rw e (number_beside (store_standing nums i t) i (standing_column.base + r) c (λ l u. omega arith) ∙ standing_standing nums z i r h t))
      (λ e. rw e (one_beside (standing_column.base + r) (λ l u. omega arith)))

  pub target_number : (d : ℕ) (value : ℕ → ℕ) → Counts store_number d value → number_column.base ≤ d → d ≤ numbered_column.base → (r : ℕ) → r < name_rows →
      get_or (with_target nums i t kind word n c) (d + r) 0
      ≡ cond (eqb kind semaphore && eqb r i) (value c) (cond (activates kind word && eqb r i) (value n) (get_or nums (d + r) 0))
  unfolding with_target
  target_number d value f lo hi r h =
      entry_if (eqb kind semaphore) (store_number (store_standing nums i t) i c) one (d + r)
      (λ e. rw (e, no_activation kind word e)
      (f (store_standing nums i t) (length_store_standing nums i t ∙ z) i r h c
      ∙ ap (cond (eqb r i) (value c)) (standing_beside nums i (d + r) t (λ l u. omega arith))))
      (λ e. rw e (made (activates kind word) (eqb r i) _ nums (d + r) (value n) (λ y. activation_counts d value hi f nums z i r h n)))

  pub target_first : (r : ℕ) → r < name_rows → first_number_at (with_target nums i t kind word n c) r
      ≡ cond (activates kind word && eqb r i) (cond (eqb (numbered_at nums r) 0) n (first_number_at nums r)) (first_number_at nums r)
  unfolding with_target
  target_first r h =
      entry_if (eqb kind semaphore) (store_number (store_standing nums i t) i c) one (first_number_column.base + r)
      (λ e. rw (no_activation kind word e)
      (number_beside (store_standing nums i t) i (first_number_column.base + r) c (λ l u. omega arith)
      ∙ standing_beside nums i (first_number_column.base + r) t (λ l u. omega arith)))
      (λ e. made (activates kind word) (eqb r i) _ nums (first_number_column.base + r) _ (λ y. activation_first nums z i r h n))

-- ---- the state of the core, and the number of its holder

module _ (nums : List ℕ) (class i p n : ℕ) where
  pub core_beside : (x : ℕ) → Outside standing_column number_column x → get_or (with_core nums class i p n) x 0 ≡ get_or nums x 0
  unfolding with_core
  core_beside x out =
      entry_if (eqb class no_core) nums _ x (λ e. refl)
      (λ e. entry_if (eqb class gives_core) (store_standing nums i idle_core) (store_holder nums i p n) x
      (λ f. standing_beside nums i x 1 (λ l u. out (omega arith) (omega arith)))
      (λ f. holder_beside nums i x p n out))

  module _ (z : length nums ≡ nums_size) (k : eqb class no_core ≡ false → p < name_rows) (r : ℕ) (h : r < name_rows) where
    -- a column of which the stores to the core's row are known
    core_column : (d idle held : ℕ) →
        (get_or (store_standing nums i idle_core) (d + r) 0 ≡ cond (eqb r i) idle (get_or nums (d + r) 0)) →
        (p < name_rows → get_or (store_holder nums i p n) (d + r) 0 ≡ cond (eqb r i) held (get_or nums (d + r) 0)) →
        get_or (with_core nums class i p n) (d + r) 0 ≡ cond (not (eqb class no_core) && eqb r i) (cond (eqb class gives_core) idle held) (get_or nums (d + r) 0)
    unfolding with_core
    core_column d idle held f g =
        entry_if (eqb class no_core) nums _ (d + r) (λ e. rw e)
        (λ e. rw e (entry_if (eqb class gives_core) (store_standing nums i idle_core) (store_holder nums i p n) (d + r) (λ t. rw t f) (λ t. rw t (g (k e)))))

    pub core_standing : standing_at (with_core nums class i p n) r
        ≡ cond (not (eqb class no_core) && eqb r i) (cond (eqb class gives_core) idle_core (held_by p)) (standing_at nums r)
    core_standing = core_column standing_column.base idle_core (held_by p) (standing_standing nums z i r h idle_core) (λ o. holder_standing nums z i p n r o h)

    pub core_number : number_at (with_core nums class i p n) r
        ≡ cond (not (eqb class no_core) && eqb r i) (cond (eqb class gives_core) (number_at nums r) n) (number_at nums r)
    core_number =
        core_column number_column.base (number_at nums r) n
        (standing_beside nums i (number_column.base + r) 1 (λ l u. omega arith) ∙ sym (same_choice (eqb r i) (number_at nums r)))
        (λ o. holder_number nums z i p n r o h)

-- ---- the single entries

below : (l : List ℕ) (k j v : ℕ) → ltb k kind_column.base ≡ true → kind_column.base ≤ j → get_or (set l k v) j 0 ≡ get_or l j 0
below l k j v p h = other l k j v (λ e. omega (arith, ltb-true k kind_column.base p))

module _ (nums : List ℕ) (a b : ℕ) where
  pub counts_beside : (j : ℕ) → kind_column.base ≤ j → get_or (with_counts nums a b) j 0 ≡ get_or nums j 0
  unfolding with_counts
  counts_beside j h = simp below

  pub counts_stored : length nums ≡ nums_size → (j : ℕ) → get_or (with_counts nums a b) j 0 ≡
      cond (eqb cores_index j) ((core_count nums + b) % 2 ^ 32)
      (cond (eqb names_index j) ((name_count nums + a) % 2 ^ 32)
      (cond (eqb started_index j) 1 (cond (eqb lines_index j) ((line_count nums + 1) % 2 ^ 32) (get_or nums j 0))))
  unfolding with_counts
  counts_stored z j = simp (single nums_size, length-set, z)

-- ---- what is kept of the instance: its row, or the row of another, and how many there are

put_beside : (nums : List ℕ) (f : Option ℕ) (i n t x : ℕ) → Outside owner_column state_column x → (instances_index ≡ x → ⊥) → get_or (put_row nums f i n t) x 0 ≡ get_or nums x 0
unfolding put_row
put_beside nums (Some j) i n t x out d = instance_beside nums j x i n t out
put_beside nums None i n t x out d =
    kept_if (ltb (instance_count nums) instance_rows) _ nums x (λ l.
    other (store_instance nums (instance_count nums) i n t) instances_index x (instance_count nums + 1) d ∙ instance_beside nums (instance_count nums) x i n t out)

without_beside : (nums : List ℕ) (f : Option ℕ) (x : ℕ) → Outside owner_column state_column x → (instances_index ≡ x → ⊥) → get_or (without_row nums f) x 0 ≡ get_or nums x 0
unfolding without_row
without_beside nums (Some j) x out d = given_beside nums j x out d
without_beside nums None x out d = refl

pub entry_beside : (nums : List ℕ) (f : Option ℕ) (i kind n t x : ℕ) → Outside owner_column state_column x → (instances_index ≡ x → ⊥) → get_or (with_entry nums f i kind n t) x 0 ≡ get_or nums x 0
unfolding with_entry
entry_beside nums f i kind n t x out d =
    kept_if (has_instances kind) _ nums x (λ k.
    entry_if (needs_row nums i n t) (put_row nums f i n t) (without_row nums f) x (λ a. put_beside nums f i n t x out d) (λ b. without_beside nums f x out d))

-- ---- the places of new names

pub places_beside : (nums : List ℕ) (s : LookedUp) (kind i p : ℕ) (source target : List ℕ) (j : ℕ) → Outside place_column place_column j →
    get_or (with_places nums s kind i p source target) j 0 ≡ get_or nums j 0
unfolding with_places
places_beside nums s kind i p source target j out =
    let one = cond (eqb (new_core s) 1) (store_place nums i (home_of source)) nums in
    kept_if (eqb (new_name s kind) 1) (store_place one p (home_of target)) one j (λ t. place_beside one p (home_of target) j out)
    ∙ kept_if (eqb (new_core s) 1) _ nums j (λ t. place_beside nums i (home_of source) j out)
