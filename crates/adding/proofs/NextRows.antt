-- The row of a sum that comes next, by the rows that stand first in what is left of two sections.
use mathlib.Core.Path.{◌≡◌}
use mathlib.Core.Bool.{Bool, true}
use mathlib.Core.List.{List, [], ◌∷◌, map}
use Prim.Native.Nat.{ℕ, zero, suc, ◌+◌, ◌≤◌, ◌<◌}
use native.Mathlib.Omega.{arith}
use lib.ListN.{length, get_or, drop, length-map, get_or-map, drop_of_length-le}
use lib.Seq.{drop-cons}
use Rattle.text.specs.Put.{after, put}
use Rattle.text.specs.Lists.{all}
use Rattle.text.proofs.Bools.{and_l, and_r}
use Rattle.bill.specs.declared.section.Section.{Section}
use Rattle.bill.specs.Rows.{Row}
use Rattle.bill.specs.Text.{row_text}
use Rattle.std.specs.declared.cmp.Ordering.{Ordering}
use Rattle.std.specs.declared.cmp.Ordering.TheVariants.{Less, Equal, Greater}
use Rattle.sorting.specs.Order.{Name, order}
use Rattle.shifts.specs.Merge.{next_of, no_row, next_row}
use Rattle.adding.specs.declared.put.Figures.{Figures}
use Rattle.paper.specs.Lines.{line_from, row_at, name_at}
use Rattle.adding.specs.MergeCode.{figures_at, none_for, sum_of, shown, row_with, fine_row, rows_at, InOrder, Next}
use Rattle.adding.proofs.Amounts.{figures_own, plus_shown}

-- ---- whose name comes next

module _ (s left : List ℕ) (i : ℕ) (t right : List ℕ) (j : ℕ) where
  abbrev comes_next : Ordering
  comes_next = next_of (drop i (map (name_at s) left)) (drop j (map (name_at t) right))

  pub left_ended : length left ≤ i → Greater ≡ comes_next
  left_ended h = rw (drop_of_length-le (map (name_at s) left) {i = i} (omega (arith, length-map left (name_at s))))

  pub right_ended : i < length left → length right ≤ j → Less ≡ comes_next
  right_ended h k =
      rw (drop-cons (map (name_at s) left) i (name_at s 0) (omega (arith, length-map left (name_at s))), drop_of_length-le (map (name_at t) right) {i = j} (omega (arith, length-map right (name_at t))))

  pub both_left : {n m : Name} {o : Ordering} → i < length left → j < length right → n ≡ name_at s (get_or left i 0) → m ≡ name_at t (get_or right j 0) → o ≡ order n m → o ≡ comes_next
  both_left h k p q e =
      rw (e, p, q, drop-cons (map (name_at s) left) i (name_at s 0) (omega (arith, length-map left (name_at s))), drop-cons (map (name_at t) right) j (name_at t 0) (omega (arith, length-map right (name_at t))), get_or-map (name_at s) left i 0, get_or-map (name_at t) right j 0)

-- ---- the row that stands first

fine_at : (p : List ℕ → Bool) (f : ℕ → List ℕ) (l : List ℕ) (i : ℕ) → all p (map f l) ≡ true → i < length l → p (f (get_or l i 0)) ≡ true
fine_at p f [] i h k = absurd (omega arith)
fine_at p f (x ∷ l) zero h k = and_l (p (f x)) (all p (map f l)) h
fine_at p f (x ∷ l) (suc i) h k = fine_at p f l i (and_r (p (f x)) (all p (map f l)) h) (omega arith)

module _ {section : Section} {text places : List ℕ} (i : ℕ) (k : InOrder section text places) (h : i < length places) where
  first_row : get_or (drop i (rows_at text places)) 0 no_row ≡ row_with section (name_at text (get_or places i 0)) (figures_at text (get_or places i 0))
  first_row =
      let p = get_or places i 0 in
      rw (drop-cons (rows_at text places) i (row_at text 0) (omega (arith, length-map places (row_at text))), get_or-map (row_at text) places i 0, figures_own section text p (fine_at (fine_row section) (line_from text) places i k.fine h))

-- ---- the row that comes next, from what the code reads of the one or two that stand first

module _ {section : Section} {s left t right : List ℕ} {x y i j room at : ℕ} {o : Ordering} (w : Next section s left x t right y i j o room at) where
  abbrev pub next : Row
  next = next_row o (shown section (none_for x)) (shown section (none_for y)) (drop i (rows_at s left)) (drop j (rows_at t right))

  pub left_there : o ≡ Less → i < length left
  left_there e = w.left_is (rw e)

  pub left_both : o ≡ Equal → i < length left
  left_both e = w.left_is (rw e)

  pub right_both : o ≡ Equal → j < length right
  right_both e = w.right_is (rw e)

  pub right_there : o ≡ Greater → j < length right
  right_there e = w.right_is (rw e)

  module _ {n : Name} {f g h : Figures} where
    pub left_alone : o ≡ Less → n ≡ name_at s (get_or left i 0) → f ≡ figures_at s (get_or left i 0) → g ≡ none_for y → h ≡ sum_of f g → row_with section n h ≡ next
    left_alone e a b c d = rw (e, first_row i w.first (left_there e), d, a, b, c, plus_shown section (figures_at s (get_or left i 0)) (none_for y))

    pub in_both : o ≡ Equal → n ≡ name_at s (get_or left i 0) → f ≡ figures_at s (get_or left i 0) → g ≡ figures_at t (get_or right j 0) → h ≡ sum_of f g → row_with section n h ≡ next
    in_both e a b c d =
        rw (e, first_row i w.first (left_both e), first_row j w.second (right_both e), d, a, b, c, plus_shown section (figures_at s (get_or left i 0)) (figures_at t (get_or right j 0)))

    pub right_alone : o ≡ Greater → n ≡ name_at t (get_or right j 0) → f ≡ none_for x → g ≡ figures_at t (get_or right j 0) → h ≡ sum_of f g → row_with section n h ≡ next
    right_alone e a b c d = rw (e, first_row j w.second (right_there e), d, a, b, c, plus_shown section (none_for x) (figures_at t (get_or right j 0)))

  -- it has room, and is put as any row that is equal to it
  pub next_room : {r : Row} → r ≡ next → at + length (row_text r) ≤ room
  next_room e = rw e w.fits

pub put_same : {m : List ℕ} {n : ℕ} {r q : Row} (l : List ℕ) (at : ℕ) → r ≡ q → after n m ≡ put l at (row_text r) → after n m ≡ put l at (row_text q)
put_same l at e h = rw (← e) h
