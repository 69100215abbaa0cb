-- An entry after a store: the one stored to has the value, every other is as it was. By index, and by row and column for any column of a table of any size.
use mathlib.Core.Path.{◌≡◌, refl, sym, subst}
use mathlib.Core.Bool.{Bool, true, false, ◌&&◌, ◌||◌, cond}
use mathlib.Core.List.{List}
use Prim.Native.Nat.{ℕ, ◌+◌, ◌≤◌, ◌<◌}
use native.Mathlib.Omega.{arith}
use lib.Dec.{eqb, leb, ltb}
use lib.ListN.{length, get_or, set}
use lib.Seq.{get_or-set_same, get_or-set_other}
use borrow.Author.Tests.{eqb-true, eqb-false, leb-true, ltb-true}
use Rattle.rules.proofs.Tests.{both}
use Rattle.tables.specs.Entry.{Column, column, past, entry_at, store_at}

pub same : (l : List ℕ) (i v : ℕ) → i < length l → get_or (set l i v) i 0 ≡ v
same l i v h = get_or-set_same l i v 0 h

pub other : (l : List ℕ) (i j v : ℕ) → (i ≡ j → ⊥) → get_or (set l i v) j 0 ≡ get_or l j 0
other l i j v h = get_or-set_other l i j v 0 (λ e. h (sym e))

-- both at once
entry : (l : List ℕ) (i j v : ℕ) → i < length l → get_or (set l i v) j 0 ≡ cond (eqb i j) v (get_or l j 0)
entry l i j v h = by_test (eqb i j) refl
  where
    by_test : (b : Bool) → eqb i j ≡ b → get_or (set l i v) j 0 ≡ cond b v (get_or l j 0)
    by_test true q = subst (λ (k : ℕ). get_or (set l i v) k 0 ≡ v) (eqb-true i j q) (same l i v h)
    by_test false q = other l i j v (eqb-false i j q)

-- in a table of so many entries
pub single : (size : ℕ) (t : List ℕ) (i j v : ℕ) → ltb i size ≡ true → length t ≡ size → get_or (set t i v) j 0 ≡ cond (eqb i j) v (get_or t j 0)
single size t i j v p z = entry t i j v (omega (arith, ltb-true i size p))

-- ---- a store to a row of a column

-- columns that do not meet: a test, so that two columns of the layout are told apart by computing it
abbrev pub apart : Column → Column → Bool
apart c d = leb (past c) d.base || leb (past d) c.base

module _ (c : Column) (t : List ℕ) (i v : ℕ) where
  pub own : i < c.rows → past c ≤ length t → entry_at c (store_at c t i v) i ≡ v
  own h p = same t (c.base + i) v (omega arith)

  pub other_row : (r : ℕ) → (r ≡ i → ⊥) → entry_at c (store_at c t i v) r ≡ entry_at c t r
  other_row r h = other t (c.base + i) (c.base + r) v (λ e. h (omega arith))

  -- an entry that is not one of the column's
  pub outside : i < c.rows → (j : ℕ) → (c.base ≤ j → j < past c → ⊥) → get_or (store_at c t i v) j 0 ≡ get_or t j 0
  outside h j out = other t (c.base + i) j v (λ e. out (omega arith) (omega arith))

  pub other_column : i < c.rows → (d : Column) → apart c d ≡ true → (r : ℕ) → r < d.rows → entry_at d (store_at c t i v) r ≡ entry_at d t r
  other_column h d p r k = outside h (d.base + r) (by_side (leb (past c) d.base) refl p)
    where
      by_side : (s : Bool) → leb (past c) d.base ≡ s → s || leb (past d) c.base ≡ true → c.base ≤ d.base + r → d.base + r < past c → ⊥
      by_side true a q l u = omega (arith, leb-true (past c) d.base a)
      by_side false a q l u = omega (arith, leb-true (past d) c.base q)

-- ---- all of it by tests, for stores one after another. These laws name a column by its base, which stands in the index: so they find it.

-- two columns of a table, the same or apart
abbrev pub fitting : ℕ → Column → Column → Bool
fitting size c d = leb (past c) size && (eqb c.base d.base || apart c d)

-- a row of a column with as many rows
pub cell : (size rows : ℕ) (t : List ℕ) (b d i r v : ℕ) → fitting size (column b rows) (column d rows) ≡ true → length t ≡ size → i < rows → r < rows →
    entry_at (column d rows) (store_at (column b rows) t i v) r ≡ cond (eqb b d && eqb r i) v (entry_at (column d rows) t r)
cell size rows t b d i r v p z hi hr = by_test (eqb b d) refl (eqb r i) refl (both (leb (b + rows) size) _ p).1
  where
    bound : b + rows ≤ length t
    bound = omega (arith, leb-true (b + rows) size (both (leb (b + rows) size) _ p).0)

    by_test : (x : Bool) → eqb b d ≡ x → (y : Bool) → eqb r i ≡ y → x || apart (column b rows) (column d rows) ≡ true →
        get_or (set t (b + i) v) (d + r) 0 ≡ cond (x && y) v (get_or t (d + r) 0)
    by_test true e true f q = rw (← (eqb-true b d e), eqb-true r i f) (own (column b rows) t i v hi bound)
    by_test true e false f q = rw (← (eqb-true b d e)) (other_row (column b rows) t i v r (eqb-false r i f))
    by_test false e y f q = other_column (column b rows) t i v hi (column d rows) q r hr

-- a row of a column after a store to a single entry before it
pub before : (t : List ℕ) (k b r v : ℕ) → ltb k b ≡ true → get_or (set t k v) (b + r) 0 ≡ get_or t (b + r) 0
before t k b r v p = other t k (b + r) v (λ e. omega (arith, ltb-true k b p))

-- an entry out of the columns from one up to another, after a store to one of them
abbrev pub Outside : Column → Column → ℕ → Type 0
Outside first last j = first.base ≤ j → j < past last → ⊥

pub beside : (first last : Column) (rows : ℕ) (t : List ℕ) (b i j v : ℕ) → leb first.base b && leb (b + rows) (past last) ≡ true → Outside first last j →
    i < rows → get_or (store_at (column b rows) t i v) j 0 ≡ get_or t j 0
beside first last rows t b i j v p out h =
    let q = both (leb first.base b) (leb (b + rows) (past last)) p in
    let from = leb-true first.base b q.0 in
    let to = leb-true (b + rows) (past last) q.1 in
    outside (column b rows) t i v h j (λ l u. out (omega arith) (omega arith))
