-- One store to a row of nums, of a name or of an instance: the row has its values, and every other entry is as it was. And a store that is made or not.
use mathlib.Core.Path.{◌≡◌, refl, sym, ap, ◌∙◌}
use mathlib.Core.Bool.{Bool, true, false, not, ◌&&◌, cond, and-true, and-false}
use mathlib.Core.List.{List}
use Prim.Native.Nat.{ℕ, ◌+◌, ◌-◌, ◌%◌, ◌^◌, ◌≤◌, ◌<◌}
use native.Mathlib.Omega.{arith}
use lib.Dec.{eqb, leb, ltb}
use lib.ListN.{length, get_or, set, length-set}
use borrow.Author.Tests.{eqb-true, ne_eqb, le-leb, lt-ltb, ltb-true, ltb-false}
use Rattle.rules.proofs.Tests.{both}
use Rattle.tables.specs.Entry.{held_by, name_rows, instance_rows, place_rows, nums_size, instances_index, instance_count}
use Rattle.tables.specs.Entry.{kind_column, length_column, standing_column, number_column, numbered_column, first_number_column, owner_column, instance_column, state_column, place_column}
use Rattle.tables.specs.Entry.{kind_at, length_at, standing_at, number_at, numbered_at, first_number_at, owner_at, instance_at, state_at, places, store_at}
use Rattle.tables.proofs.Stores.{same, other, cell, before, Outside, outside, beside}
use Rattle.index.specs.Index.{free}
use Rattle.store.specs.Store.{store_row, store_place, store_instance, store_standing, store_holder, store_number, store_activation, given_back}
use Rattle.store.proofs.Stores.{length_first}

-- ---- a store that is made or not

pub entry_if : (b : Bool) (x y : List ℕ) (j : ℕ) {v : ℕ} → (b ≡ true → get_or x j 0 ≡ v) → (b ≡ false → get_or y j 0 ≡ v) → get_or (cond b x y) j 0 ≡ v
entry_if true x y j p q = p refl
entry_if false x y j p q = q refl

pub kept_if : (b : Bool) (x l : List ℕ) (j : ℕ) → (b ≡ true → get_or x j 0 ≡ get_or l j 0) → get_or (cond b x l) j 0 ≡ get_or l j 0
kept_if b x l j p = entry_if b x l j p (λ f. refl)

-- made where a test passes, and there at one entry
pub made : (b q : Bool) (x l : List ℕ) (j v : ℕ) → (b ≡ true → get_or x j 0 ≡ cond q v (get_or l j 0)) → get_or (cond b x l) j 0 ≡ cond (b && q) v (get_or l j 0)
made true q x l j v p = p refl
made false q x l j v p = refl

pub length_if : (b : Bool) (x l : List ℕ) → length x ≡ length l → length (cond b x l) ≡ length l
length_if true x l p = p
length_if false x l p = refl

-- made only where the row is one of the column
row_if : (n i : ℕ) (t : Bool) → t ≡ ltb i n → (x l : List ℕ) (b r v : ℕ) → r < n →
    (i < n → get_or x (b + r) 0 ≡ cond (eqb r i) v (get_or l (b + r) 0)) → get_or (cond t x l) (b + r) 0 ≡ cond (eqb r i) v (get_or l (b + r) 0)
row_if n i t e x l b r v h p =
    entry_if t x l (b + r) (λ y. p (ltb-true i n (sym e ∙ y))) (λ f. rw (ne_eqb r i (λ q. omega (arith, ltb-false i n (sym e ∙ f)))))

-- made only where a name has its row too, as it has
named_too : (n i p : ℕ) → p < name_rows → ltb i n && ltb p name_rows ≡ ltb i n
named_too n i p o = rw (lt-ltb p name_rows o) (and-true (ltb i n))

-- ---- the stores to a row of a name

module _ (nums : List ℕ) (z : length nums ≡ nums_size) (i r : ℕ) (h : r < name_rows) where
  pub row_kind : (kind n : ℕ) → kind_at (store_row nums i kind n) r ≡ cond (eqb r i) kind (kind_at nums r)
  unfolding store_row
  row_kind kind n = row_if name_rows i (ltb i name_rows) refl _ nums kind_column.base r kind h (λ k. simp (cell nums_size name_rows, length-set, z))

  pub row_length : (kind n : ℕ) → length_at (store_row nums i kind n) r ≡ cond (eqb r i) (n % 2 ^ 32) (length_at nums r)
  unfolding store_row
  row_length kind n = row_if name_rows i (ltb i name_rows) refl _ nums length_column.base r (n % 2 ^ 32) h (λ k. simp (cell nums_size name_rows, length-set, z))

  pub row_standing : (kind n : ℕ) → standing_at (store_row nums i kind n) r ≡ cond (eqb r i) 0 (standing_at nums r)
  unfolding store_row
  row_standing kind n = row_if name_rows i (ltb i name_rows) refl _ nums standing_column.base r 0 h (λ k. simp (cell nums_size name_rows, length-set, z))

  pub row_number : (kind n : ℕ) → number_at (store_row nums i kind n) r ≡ cond (eqb r i) 0 (number_at nums r)
  unfolding store_row
  row_number kind n = row_if name_rows i (ltb i name_rows) refl _ nums number_column.base r 0 h (λ k. simp (cell nums_size name_rows, length-set, z))

  pub row_numbered : (kind n : ℕ) → numbered_at (store_row nums i kind n) r ≡ cond (eqb r i) 0 (numbered_at nums r)
  unfolding store_row
  row_numbered kind n = row_if name_rows i (ltb i name_rows) refl _ nums numbered_column.base r 0 h (λ k. simp (cell nums_size name_rows, length-set, z))

  pub row_first : (kind n : ℕ) → first_number_at (store_row nums i kind n) r ≡ cond (eqb r i) 0 (first_number_at nums r)
  unfolding store_row
  row_first kind n = row_if name_rows i (ltb i name_rows) refl _ nums first_number_column.base r 0 h (λ k. simp (cell nums_size name_rows, length-set, z))

  pub standing_standing : (v : ℕ) → standing_at (store_standing nums i v) r ≡ cond (eqb r i) v (standing_at nums r)
  unfolding store_standing
  standing_standing v = row_if name_rows i (ltb i name_rows) refl _ nums standing_column.base r v h (λ k. simp (cell nums_size name_rows, z))

  pub number_number : (v : ℕ) → number_at (store_number nums i v) r ≡ cond (eqb r i) v (number_at nums r)
  unfolding store_number
  number_number v = row_if name_rows i (ltb i name_rows) refl _ nums number_column.base r v h (λ k. simp (cell nums_size name_rows, length-set, z))

  pub number_numbered : (v : ℕ) → numbered_at (store_number nums i v) r ≡ cond (eqb r i) 1 (numbered_at nums r)
  unfolding store_number
  number_numbered v = row_if name_rows i (ltb i name_rows) refl _ nums numbered_column.base r 1 h (λ k. simp (cell nums_size name_rows, length-set, z))

-- the stores of a core's holder, where its name has a row
module _ (nums : List ℕ) (z : length nums ≡ nums_size) (i p n r : ℕ) (o : p < name_rows) (h : r < name_rows) where
  pub holder_standing : standing_at (store_holder nums i p n) r ≡ cond (eqb r i) (held_by p) (standing_at nums r)
  unfolding store_holder
  holder_standing =
      row_if name_rows i (ltb i name_rows && ltb p name_rows) (named_too name_rows i p o) _ nums standing_column.base r (held_by p) h
      (λ k. simp (cell nums_size name_rows, length-set, z))

  pub holder_number : number_at (store_holder nums i p n) r ≡ cond (eqb r i) n (number_at nums r)
  unfolding store_holder
  holder_number =
      row_if name_rows i (ltb i name_rows && ltb p name_rows) (named_too name_rows i p o) _ nums number_column.base r n h
      (λ k. simp (cell nums_size name_rows, length-set, z))

module _ (nums : List ℕ) (i j : ℕ) where
  pub row_beside : (kind n : ℕ) → Outside kind_column first_number_column j → get_or (store_row nums i kind n) j 0 ≡ get_or nums j 0
  unfolding store_row
  row_beside kind n out = kept_if (ltb i name_rows) _ nums j (λ t. let h = ltb-true i name_rows t in simp (beside kind_column first_number_column name_rows))

  pub standing_beside : (v : ℕ) → Outside standing_column standing_column j → get_or (store_standing nums i v) j 0 ≡ get_or nums j 0
  unfolding store_standing
  standing_beside v out = kept_if (ltb i name_rows) _ nums j (λ t. let h = ltb-true i name_rows t in simp (beside standing_column standing_column name_rows))

  pub holder_beside : (p n : ℕ) → Outside standing_column number_column j → get_or (store_holder nums i p n) j 0 ≡ get_or nums j 0
  unfolding store_holder
  holder_beside p n out =
      kept_if (ltb i name_rows && ltb p name_rows) _ nums j
      (λ t. let h = ltb-true i name_rows (both (ltb i name_rows) _ t).0 in simp (beside standing_column number_column name_rows))

  pub number_beside : (v : ℕ) → Outside number_column numbered_column j → get_or (store_number nums i v) j 0 ≡ get_or nums j 0
  unfolding store_number
  number_beside v out = kept_if (ltb i name_rows) _ nums j (λ t. let h = ltb-true i name_rows t in simp (beside number_column numbered_column name_rows))

  pub instance_beside : (owner number state : ℕ) → Outside owner_column state_column j → get_or (store_instance nums i owner number state) j 0 ≡ get_or nums j 0
  unfolding store_instance
  instance_beside owner number state out =
      kept_if (ltb i instance_rows && ltb owner name_rows) _ nums j
      (λ t. let h = ltb-true i instance_rows (both (ltb i instance_rows) _ t).0 in simp (beside owner_column state_column instance_rows))

-- ---- a store to the index

pub place_beside : (nums : List ℕ) (i home j : ℕ) → Outside place_column place_column j → get_or (store_place nums i home) j 0 ≡ get_or nums j 0
unfolding store_place
place_beside nums i home j out =
    let p = free (places nums) home in
    kept_if (ltb i name_rows && ltb p place_rows) _ nums j
    (λ t. outside place_column nums p (i + 1) (ltb-true p place_rows (both (ltb i name_rows) (ltb p place_rows) t).1) j out)

-- ---- the number of an activation or start

pub activation_beside : (nums : List ℕ) (i j v : ℕ) → Outside number_column first_number_column j → get_or (store_activation nums i v) j 0 ≡ get_or nums j 0
unfolding store_activation
activation_beside nums i j v out =
    kept_if (ltb i name_rows) _ nums j (λ t.
    let h = ltb-true i name_rows t in
    number_beside (cond (eqb (numbered_at nums i) 0) (store_at first_number_column nums i v) nums) i j v (λ l u. out (omega arith) (omega arith))
    ∙ kept_if (eqb (numbered_at nums i) 0) _ nums j (λ e. outside first_number_column nums i v h j (λ l u. out (omega arith) (omega arith))))

-- what a store of a number leaves in the column from d on
abbrev pub Counts : (List ℕ → ℕ → ℕ → List ℕ) → ℕ → (ℕ → ℕ) → Type 0
Counts store d value = (l : List ℕ) → length l ≡ nums_size → (i r : ℕ) → r < name_rows → (c : ℕ) →
    get_or (store l i c) (d + r) 0 ≡ cond (eqb r i) (value c) (get_or l (d + r) 0)

-- it stores the last number and that there is one, as any number's store does
pub activation_counts : (d : ℕ) (value : ℕ → ℕ) → d ≤ numbered_column.base → Counts store_number d value → Counts store_activation d value
unfolding store_activation
activation_counts d value hi f l z i r h c =
    row_if name_rows i (ltb i name_rows) refl _ l d r (value c) h (λ k.
    f (cond (eqb (numbered_at l i) 0) (store_at first_number_column l i c) l) (length_first l i c ∙ z) i r h c
    ∙ ap (cond (eqb r i) (value c)) (kept_if (eqb (numbered_at l i) 0) _ l (d + r) (λ e. outside first_number_column l i c k (d + r) (λ l u. omega arith))))

-- and the first, where there was none
pub activation_first : (l : List ℕ) → length l ≡ nums_size → (i r : ℕ) → r < name_rows → (c : ℕ) →
    first_number_at (store_activation l i c) r ≡ cond (eqb r i) (cond (eqb (numbered_at l r) 0) c (first_number_at l r)) (first_number_at l r)
unfolding store_activation
activation_first l z i r h c =
    row_if name_rows i (ltb i name_rows) refl _ l first_number_column.base r _ h (λ k.
    number_beside (cond (eqb (numbered_at l i) 0) (store_at first_number_column l i c) l) i (first_number_column.base + r) c (λ l u. omega arith)
    ∙ made (eqb (numbered_at l i) 0) (eqb r i) (store_at first_number_column l i c) l (first_number_column.base + r) c (λ e. simp (cell nums_size name_rows, z))
    ∙ by_row (eqb r i) refl)
  where
    by_row : (b : Bool) → eqb r i ≡ b →
        cond (eqb (numbered_at l i) 0 && b) c (first_number_at l r) ≡ cond b (cond (eqb (numbered_at l r) 0) c (first_number_at l r)) (first_number_at l r)
    by_row true q = rw (eqb-true r i q, and-true (eqb (numbered_at l i) 0))
    by_row false q = rw (and-false (eqb (numbered_at l i) 0))

-- ---- the stores to a row of an instance

module _ (nums : List ℕ) (z : length nums ≡ nums_size) (i owner q : ℕ) (o : owner < name_rows) (h : q < instance_rows) (number state : ℕ) where
  pub instance_owner : owner_at (store_instance nums i owner number state) q ≡ cond (eqb q i) owner (owner_at nums q)
  unfolding store_instance
  instance_owner =
      row_if instance_rows i (ltb i instance_rows && ltb owner name_rows) (named_too instance_rows i owner o) _ nums owner_column.base q owner h
      (λ k. simp (cell nums_size instance_rows, length-set, z))

  pub instance_number : instance_at (store_instance nums i owner number state) q ≡ cond (eqb q i) number (instance_at nums q)
  unfolding store_instance
  instance_number =
      row_if instance_rows i (ltb i instance_rows && ltb owner name_rows) (named_too instance_rows i owner o) _ nums instance_column.base q number h
      (λ k. simp (cell nums_size instance_rows, length-set, z))

  pub instance_state : state_at (store_instance nums i owner number state) q ≡ cond (eqb q i) state (state_at nums q)
  unfolding store_instance
  instance_state =
      row_if instance_rows i (ltb i instance_rows && ltb owner name_rows) (named_too instance_rows i owner o) _ nums state_column.base q state h
      (λ k. simp (cell nums_size instance_rows, length-set, z))

-- ---- a row given back: the last one moves into it

abbrev moved : List ℕ → ℕ → List ℕ
moved nums j =
    let last = instance_count nums - 1 in
    store_at state_column (store_at instance_column (store_at owner_column nums j (owner_at nums last)) j (instance_at nums last)) j (state_at nums last)

-- no other entry changes, whatever the row and the count
pub given_beside : (nums : List ℕ) (j x : ℕ) → Outside owner_column state_column x → (instances_index ≡ x → ⊥) → get_or (given_back nums j) x 0 ≡ get_or nums x 0
unfolding given_back
given_beside nums j x out d =
    kept_if (ltb j instance_rows && (not (eqb (instance_count nums) 0) && leb (instance_count nums) instance_rows)) _ nums x (λ t.
    let h = ltb-true j instance_rows (both (ltb j instance_rows) _ t).0 in
    other (moved nums j) instances_index x (instance_count nums - 1) d ∙ simp (beside owner_column state_column instance_rows))

module _ (nums : List ℕ) (z : length nums ≡ nums_size) (j : ℕ) (l : j < instance_rows) (p : 1 ≤ instance_count nums) (m : instance_count nums ≤ instance_rows) where
  abbrev final : ℕ
  final = instance_count nums - 1

  given_opened : given_back nums j ≡ set (moved nums j) instances_index final
  unfolding given_back
  given_opened = rw (lt-ltb j instance_rows l, ne_eqb (instance_count nums) 0 (λ q. omega arith), le-leb (instance_count nums) instance_rows m)

  moved_size : length (moved nums j) ≡ nums_size
  moved_size = simp (length-set, z)

  pub given_count : instance_count (given_back nums j) ≡ final
  given_count = ap instance_count given_opened ∙ same (moved nums j) instances_index final (omega (arith, moved_size))

  module _ (q : ℕ) (h : q < instance_rows) where
    pub given_owner : owner_at (given_back nums j) q ≡ cond (eqb q j) (owner_at nums final) (owner_at nums q)
    given_owner =
        ap (λ (t : List ℕ). owner_at t q) given_opened ∙ before (moved nums j) instances_index owner_column.base q final refl ∙ simp (cell nums_size instance_rows, length-set, z)

    pub given_number : instance_at (given_back nums j) q ≡ cond (eqb q j) (instance_at nums final) (instance_at nums q)
    given_number =
        ap (λ (t : List ℕ). instance_at t q) given_opened ∙ before (moved nums j) instances_index instance_column.base q final refl ∙ simp (cell nums_size instance_rows, length-set, z)

    pub given_state : state_at (given_back nums j) q ≡ cond (eqb q j) (state_at nums final) (state_at nums q)
    given_state =
        ap (λ (t : List ℕ). state_at t q) given_opened ∙ before (moved nums j) instances_index state_column.base q final refl ∙ simp (cell nums_size instance_rows, length-set, z)
