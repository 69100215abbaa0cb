-- Two sections walked side by side, the rows of their sum put one by one: what is left of the sum at a turn.
use mathlib.Core.Path.{◌≡◌, refl, sym, ap, ◌∙◌}
use mathlib.Core.Bool.{true}
use mathlib.Core.List.{List, [], ◌∷◌, ◌++◌, map, map-map}
use Prim.Native.Nat.{ℕ, zero, suc, ◌+◌, ◌≤◌, ◌<◌}
use native.Mathlib.Omega.{arith}
use lib.ListN.{length, drop, length-map, length-drop, length-append, drop_of_length-le}
use lib.Seq.{drop-drop}
use Rattle.text.specs.Put.{after, put}
use Rattle.text.proofs.Writes.{put_length}
use Rattle.bill.specs.declared.section.Section.{Section}
use Rattle.bill.specs.Rows.{Row}
use Rattle.bill.specs.Text.{row_text, rows_text}
use Rattle.std.specs.declared.cmp.Ordering.{Ordering}
use Rattle.sorting.specs.Order.{Name, order}
use Rattle.sorting.specs.Sets.{rising}
use Rattle.sorting.proofs.Meets.{rising_drop}
use Rattle.shifts.specs.Sound.{names}
use Rattle.shifts.specs.Sum.{by_name, add_rows}
use Rattle.shifts.specs.Merge.{next_of, left_step, right_step, next_row}
use Rattle.shifts.proofs.Merges.{add_step, add_end}
use Rattle.paper.specs.Lines.{row_at, name_at}
use Rattle.adding.specs.MergeCode.{none_for, shown, rows_at, sum_rows, Merging, Next}
use Rattle.adding.proofs.Puts.{put_none, put_room, put_on}
use Rattle.adding.proofs.Steps.{step}

-- ---- what is left of a section, by its names

names_drop : (i : ℕ) (rs : List Row) → names (drop i rs) ≡ drop i (names rs)
unfolding names
names_drop zero rs = refl
names_drop (suc i) [] = refl
names_drop (suc i) (r ∷ rs) = names_drop i rs

names_left : (text places : List ℕ) (i : ℕ) → names (drop i (rows_at text places)) ≡ drop i (map (name_at text) places)
unfolding names
names_left text places i = names_drop i (rows_at text places) ∙ ap (drop i) (map-map by_name (row_at text) places)

-- ---- a step takes no more rows than there are

left_within : (ns ms : List Name) → left_step (next_of ns ms) ≤ length ns
left_within [] ms = omega arith
left_within (n ∷ ns) [] = omega arith
left_within (n ∷ ns) (m ∷ ms) = omega (arith, step (order n m))

right_within : (ns ms : List Name) → 0 < length ns + length ms → right_step (next_of ns ms) ≤ length ms
right_within [] [] h = omega arith
right_within [] (m ∷ ms) h = omega arith
right_within (n ∷ ns) [] h = omega arith
right_within (n ∷ ns) (m ∷ ms) h = omega (arith, step (order n m))

-- ---- a step of two sections that were begun

add_turn : (x y : List ℕ) (rs qs : List Row) (i j : ℕ) (o : Ordering) → rising (names (drop i rs)) ≡ true → rising (names (drop j qs)) ≡ true →
    0 < length (drop i rs) + length (drop j qs) → o ≡ next_of (names (drop i rs)) (names (drop j qs)) →
    add_rows x y (drop i rs) (drop j qs) ≡ next_row o x y (drop i rs) (drop j qs) ∷ add_rows x y (drop (i + left_step o) rs) (drop (j + right_step o) qs)
add_turn x y rs qs i j o h k l e = rw (← (drop-drop (left_step o) i rs), ← (drop-drop (right_step o) j qs), e) (add_step x y (drop i rs) (drop j qs) h k l)

rising_left : (text places : List ℕ) (i : ℕ) → rising (map (name_at text) places) ≡ true → rising (names (drop i (rows_at text places))) ≡ true
rising_left text places i h = rw (names_left text places i) (rising_drop i (map (name_at text) places) h)

-- ---- what is left of the sum

module _ (section : Section) (s left : List ℕ) (x : ℕ) (t right : List ℕ) (y : ℕ) where
  -- its rows from row i of the first section and row j of the second on, and the first of them
  abbrev rows_from : ℕ → ℕ → List Row
  rows_from i j = sum_rows section (drop i (rows_at s left)) x (drop j (rows_at t right)) y

  abbrev row_from : Ordering → ℕ → ℕ → Row
  row_from o i j = next_row o (shown section (none_for x)) (shown section (none_for y)) (drop i (rows_at s left)) (drop j (rows_at t right))

  -- with so many rows put into the output, up to the index at
  pub record Walk (before out : List ℕ) (i j count at : ℕ) : Type 0 where
    pub left_in : i ≤ length left
    pub right_in : j ≤ length right
    pub few : count ≤ i + j
    pub counted : count + length (rows_from i j) ≡ length (rows_from 0 0)
    pub room : at + length (rows_text (rows_from i j)) ≤ length out
    pub same : length out ≡ length before
    pub rest : put before 0 (rows_text (rows_from 0 0)) ≡ put out at (rows_text (rows_from i j))

  pub walk_start : (out : List ℕ) → Merging section s left x t right y (length out) → Walk out out 0 0 0 0
  walk_start out m =
      record {
        left_in = omega arith;
        right_in = omega arith;
        few = omega arith;
        counted = omega arith;
        room = omega (arith, m.fits);
        same = refl;
        rest = refl;
      }

  -- a turn
  module _ {before out : List ℕ} {room i j count at : ℕ} {o : Ordering} (m : Merging section s left x t right y room) (w : Walk before out i j count at) (h : i + j < length left + length right)
      (e : o ≡ next_of (drop i (map (name_at s) left)) (drop j (map (name_at t) right))) where
    some_left : {A : Type 0} (f g : ℕ → A) → 0 < length (drop i (map f left)) + length (drop j (map g right))
    some_left f g = simp (length-drop, length-map) (let a = w.left_in in let b = w.right_in in omega arith)

    turn : rows_from i j ≡ row_from o i j ∷ rows_from (i + left_step o) (j + right_step o)
    turn =
        add_turn (shown section (none_for x)) (shown section (none_for y)) (rows_at s left) (rows_at t right) i j o
        (rising_left s left i m.first.in_order) (rising_left t right j m.second.in_order) (some_left (row_at s) (row_at t))
        (rw (names_left s left i, names_left t right j) e)

    pub left_fits : i + left_step o ≤ length left
    left_fits = rw e (omega (arith, w.left_in, simp (length-drop, length-map) at (left_within (drop i (map (name_at s) left)) (drop j (map (name_at t) right)))))

    right_fits : j + right_step o ≤ length right
    right_fits = rw e (omega (arith, w.right_in, simp (length-drop, length-map) at (right_within (drop i (map (name_at s) left)) (drop j (map (name_at t) right)) (some_left (name_at s) (name_at t)))))

    text_turn : rows_text (rows_from i j) ≡ row_text (row_from o i j) ++ rows_text (rows_from (i + left_step o) (j + right_step o))
    unfolding rows_text
    text_turn = ap rows_text turn

    text_fits : at + (length (row_text (row_from o i j)) + length (rows_text (rows_from (i + left_step o) (j + right_step o)))) ≤ length out
    text_fits = omega (arith, w.room, ap length text_turn, length-append (row_text (row_from o i j)) (rows_text (rows_from (i + left_step o) (j + right_step o))))

    pub walk_next : Next section s left x t right y i j o (length out) at
    walk_next =
        record {
          first = m.first;
          second = m.second;
          first_span = m.first_span;
          second_span = m.second_span;
          left_is = λ k. omega (arith, left_fits, k);
          right_is = λ k. omega (arith, right_fits, k);
          fits = omega (arith, text_fits);
        }

    pub walk_step : {a b n : ℕ} {later : List ℕ} → a ≡ left_step o → b ≡ right_step o → after n later ≡ put out at (row_text (row_from o i j)) →
        Walk before later (i + a) (j + b) (count + 1) n
    walk_step {a} {b} {n} {later} p q f =
        rw (p, q) (record {
          left_in = left_fits;
          right_in = right_fits;
          few = omega (arith, w.few, step o);
          counted = omega (arith, w.counted, ap length turn);
          room = put_room out at (row_text (row_from o i j)) (length (rows_text (rows_from (i + left_step o) (j + right_step o)))) f text_fits;
          same = put_length out at (row_text (row_from o i j)) f ∙ w.same;
          rest = w.rest ∙ ap (put out at) text_turn ∙ sym (put_on out at (row_text (row_from o i j)) (rows_text (rows_from (i + left_step o) (j + right_step o))) f text_fits);
        })

  -- its end
  module _ {before out : List ℕ} {i j count at : ℕ} (w : Walk before out i j count at) (h : length left + length right ≤ i + j) where
    nothing_left : rows_from i j ≡ []
    nothing_left =
        let a = w.left_in in
        let b = w.right_in in
        rw (drop_of_length-le (rows_at s left) {i = i} (omega (arith, length-map left (row_at s))), drop_of_length-le (rows_at t right) {i = j} (omega (arith, length-map right (row_at t))))
        (add_end (shown section (none_for x)) (shown section (none_for y)))

    pub all_counted : count ≡ length (rows_from 0 0)
    all_counted = omega (arith, w.counted, ap length nothing_left)

    pub all_put : after at out ≡ put before 0 (rows_text (rows_from 0 0))
    unfolding rows_text
    all_put = let r = w.room in sym (w.rest ∙ ap (λ (l : List Row). put out at (rows_text l)) nothing_left ∙ put_none out at (omega arith))
