-- Laws of the rows that the tables show, as the loops go by them: one row more, its line after the lines before it, and the room that it has.
use mathlib.Core.Path.{◌≡◌}
use mathlib.Core.Bool.{Bool, true, false}
use mathlib.Core.List.{List, [], ◌∷◌, ◌++◌, append-nil}
use mathlib.Core.Logic.{⊎_elim}
use Prim.Native.Nat.{ℕ, zero, suc, ◌+◌, ◌≤◌, ◌<◌}
use native.Mathlib.Nat.{eq-or-lt_of_le}
use native.Mathlib.Numerals.{add-one}
use native.Mathlib.Omega.{arith}
use lib.ListN.{length, length-append}
use Rattle.text.specs.Put.{after, put}
use Rattle.text.proofs.Writes.{put_two}
use Rattle.line.proofs.Texts.{first_room, next_room}
use Rattle.bill.specs.declared.section.Section.{Section}
use Rattle.bill.specs.Rows.{Row}
use Rattle.bill.specs.Text.{row_text, rows_text}
use Rattle.bill.proofs.Texts.{rows_snoc, length_rows}
use Rattle.rules.specs.Lists.{keep}
use Rattle.tables.specs.Entry.{name_count, kind_at}
use Rattle.sheet.specs.Sheet.{belongs, row_in, rows_to, rows_in}

-- a row that may be left out makes the lines longer by at most its own
pub keep_lines : (b : Bool) (rs : List Row) (r : Row)
    → let n = length (rows_text (rs ++ keep b r [])) in (length (rows_text rs) ≤ n) × (n ≤ length (rows_text rs) + length (row_text r))
keep_lines true rs r = (omega (arith, length_rows rs r), omega (arith, length_rows rs r))
keep_lines false rs r = rw append-nil (omega arith, omega arith)

module _ (s : Section) (names nums ticks : List ℕ) where
  abbrev row : ℕ → Row
  row = row_in s names nums ticks

  abbrev rows : ℕ → List Row
  rows = rows_to s names nums ticks

  -- ---- one row more

  row_in_lem : (n : ℕ) → belongs s (kind_at nums n) ≡ true → rows (n + 1) ≡ rows n ++ row n ∷ []
  unfolding rows_to
  row_in_lem n e = rw (add-one, e)

  pub row_out : (n : ℕ) → belongs s (kind_at nums n) ≡ false → rows (n + 1) ≡ rows n
  unfolding rows_to
  row_out n e = rw (add-one, e, append-nil)

  pub count_in : (n : ℕ) → belongs s (kind_at nums n) ≡ true → length (rows (n + 1)) ≡ length (rows n) + 1
  count_in n e = rw (row_in_lem n e) (length-append (rows n) (row n ∷ []))

  pub length_in : (n : ℕ) → belongs s (kind_at nums n) ≡ true → length (rows_text (rows (n + 1))) ≡ length (rows_text (rows n)) + length (row_text (row n))
  length_in n e = rw (row_in_lem n e) (length_rows (rows n) (row n))

  -- ---- its line put after the lines before it

  rows_grow : (n m : ℕ) → n ≤ m → length (rows_text (rows n)) ≤ length (rows_text (rows m))
  unfolding rows_to
  rows_grow n zero h = let e : n ≡ 0 = omega arith in rw e (omega arith)
  rows_grow n (suc m) h =
      ⊎_elim
      (λ e. rw e (omega arith))
      (λ l. omega (arith, rows_grow n m (omega arith), (keep_lines (belongs s (kind_at nums m)) (rows m) (row m)).0))
      (eq-or-lt_of_le h)

  module _
      (l : List ℕ)
      (at n : ℕ)
      (e : belongs s (kind_at nums n) ≡ true)
      (h : n < name_count nums)
      (k : at + length (rows_text (rows_in s names nums ticks)) ≤ length l) where
    lines_fit : at + length (rows_text (rows n)) + length (row_text (row n)) ≤ length l
    unfolding rows_in
    lines_fit = omega (arith, rows_grow (n + 1) (name_count nums) (omega arith), length_in n e)

    pub line_room : {j : ℕ} {m : List ℕ} → after j m ≡ put l at (rows_text (rows n)) → j + length (row_text (row n)) ≤ length m
    line_room p = first_room (next_room {ts = row_text (row n) ∷ []} (record { fit = omega (arith, lines_fit) }) p)

    pub line_put : {j j' : ℕ} {m m' : List ℕ}
        → after j m ≡ put l at (rows_text (rows n)) → after j' m' ≡ put m j (row_text (row n)) → after j' m' ≡ put l at (rows_text (rows (n + 1)))
    line_put p q =
        let before = rows_text (rows n) in
        let line = row_text (row n) in
        rw (row_in_lem n e, rows_snoc (rows n) (row n)) (put_two l at before line p q (omega (arith, lines_fit, length-append before line)))
