-- Two sections in the order of their names, added row by row: first the row of the least name, then the sum of the rows that are left.
use mathlib.Core.Path.{◌≡◌, refl, sym, ap, ap₂, ◌∙◌}
use mathlib.Core.Bool.{Bool, true, false, not}
use mathlib.Core.List.{List, [], ◌∷◌, ◌++◌}
use Prim.Native.Nat.{ℕ, ◌+◌, ◌<◌}
use native.Mathlib.Omega.{arith}
use lib.ListN.{length, drop}
use Rattle.text.specs.Lists.{any}
use Rattle.text.proofs.Bools.{or_l, or_r, and_l, and_r}
use Rattle.bill.specs.Rows.{Row}
use Rattle.std.specs.declared.cmp.Ordering.{Ordering}
use Rattle.std.specs.declared.cmp.Ordering.TheVariants.{Less, Equal, Greater}
use Rattle.sorting.specs.Order.{Name, order, is_less}
use Rattle.sorting.specs.Sets.{has, insert_by, gather_by, insert, gather, sorted, under, rising}
use Rattle.sorting.proofs.Orders.{order_self, order_same, order_less}
use Rattle.sorting.proofs.Sets.{at_less, turn, insert_again, gather_insert, gather_append, sorted_two, any_sorted}
use Rattle.sorting.proofs.Rising.{is_less_lem}
use Rattle.shifts.specs.Sound.{names}
use Rattle.shifts.specs.Sum.{plus, figures_of, rows_of, add_rows}
use Rattle.shifts.specs.Merge.{next_of, left_step, right_step, next_row}
use Rattle.shifts.proofs.Rows.{figures_missing}

-- ---- names that all come after m

abbrev not_after : Name → Name → Bool
not_after m n = not (is_less (order m n))

-- the first of them does, and so do the others
module _ (m n : Name) (ns : List Name) (h : any (not_after m) (n ∷ ns) ≡ false) where
  first_after : order m n ≡ Less
  first_after = go (order m n) (or_l (not_after m n) (any (not_after m) ns) h)
    where
      go : (o : Ordering) → not (is_less o) ≡ false → o ≡ Less
      go Less e = refl
      go Equal e = cc
      go Greater e = cc

  rest_after : any (not_after m) ns ≡ false
  rest_after = or_r (not_after m n) (any (not_after m) ns) h

under_less : (m n : Name) (ns : List Name) → order m n ≡ Less → under n ns ≡ true → under m ns ≡ true
under_less m n [] e h = refl
under_less m n (p ∷ ns) e h = rw (order_less m n p e (is_less_lem (order n p) h))

all_after : (m : Name) (ns : List Name) → under m ns ≡ true → rising ns ≡ true → any (not_after m) ns ≡ false
unfolding rising
all_after m [] h k = refl
all_after m (n ∷ ns) h k =
    let e = is_less_lem (order m n) h in
    rw (e, all_after m ns (under_less m n ns e (and_l (under n ns) (rising ns) k)) (and_r (under n ns) (rising ns) k))

not_there : (m : Name) (ns : List Name) → any (not_after m) ns ≡ false → has m ns ≡ false
not_there m [] h = refl
not_there m (n ∷ ns) h = rw (first_after m n ns h, not_there m ns (rest_after m n ns h))

insert_first : (m : Name) (ns : List Name) → any (not_after m) ns ≡ false → insert m ns ≡ m ∷ ns
insert_first m [] h = unfold insert_by in refl
insert_first m (n ∷ ns) h = at_less m n ns (first_after m n ns h)

rows_after : (m : Name) (f g : Name → List ℕ) (ns : List Name) → any (not_after m) ns ≡ false → ((n : Name) → order m n ≡ Less → f n ≡ g n) → rows_of f ns ≡ rows_of g ns
unfolding names rows_of
rows_after m f g [] h e = refl
rows_after m f g (n ∷ ns) h e = rw (e n (first_after m n ns h), rows_after m f g ns (rest_after m n ns h) e)

-- ---- a section beside a name m that none of its names is less than: the figures of m, and the rows after it

record From (m : Name) (x : List ℕ) (rs : List Row) (figures : List ℕ) (rest : List Row) : Type 0 where
  after : any (not_after m) (names rest) ≡ false
  gathered : (l : List Name) → insert m (gather (names rs) l) ≡ insert m (gather (names rest) l)
  its : figures_of x rs m ≡ figures
  others : (n : Name) → order m n ≡ Less → figures_of x rs n ≡ figures_of x rest n

-- it has no row of that name
from_none : (m : Name) (x : List ℕ) (rs : List Row) → under m (names rs) ≡ true → rising (names rs) ≡ true → From m x rs x rs
from_none m x rs h k =
    let a = all_after m (names rs) h k in
    record { after = a; gathered = λ l. refl; its = figures_missing x rs m (not_there m (names rs) a); others = λ n e. refl }

-- its first row is of that name
from_first : (m : Name) (x : List ℕ) (r : Row) (rs : List Row) → order m r.name ≡ Equal → rising (names (r ∷ rs)) ≡ true → From m x (r ∷ rs) r.figures rs
unfolding rising figures_of gather_by names rows_of
from_first m x r rs e k =
    let q = order_same m r.name e in
    record {
      after = rw q (all_after r.name (names rs) (and_l (under r.name (names rs)) (rising (names rs)) k) (and_r (under r.name (names rs)) (rising (names rs)) k));
      gathered = λ l. rw q (insert_again r.name (gather (names rs) l));
      its = rw e;
      others = λ n f. let t : order n r.name ≡ Greater = rw q at (turn m n Less f) in rw t;
    }

-- ---- both sections beside the least name of both

module _ (m : Name) (x y : List ℕ) {rs qs rs' qs' : List Row} {f g : List ℕ} (a : From m x rs f rs') (b : From m y qs g qs')
    (there : insert m (sorted (names rs ++ names qs)) ≡ sorted (names rs ++ names qs)) where
  names_least : sorted (names rs ++ names qs) ≡ insert m (sorted (names rs' ++ names qs'))
  names_least =
      sym there
      ∙ ap (insert m) (gather_append (names rs) (names qs) [])
      ∙ a.gathered (sorted (names qs))
      ∙ sym (gather_insert (names rs') m (sorted (names qs)))
      ∙ ap (gather (names rs')) (b.gathered [])
      ∙ gather_insert (names rs') m (sorted (names qs'))
      ∙ ap (insert m) (sym (gather_append (names rs') (names qs') []))

  names_after : any (not_after m) (sorted (names rs' ++ names qs')) ≡ false
  names_after = any_sorted (not_after m) (names rs') (names qs') ∙ rw (a.after, b.after)

  least_row : add_rows x y rs qs ≡ record { name = m; figures = plus f g } ∷ add_rows x y rs' qs'
  unfolding add_rows names rows_of
  least_row =
      rw (names_least, insert_first m (sorted (names rs' ++ names qs')) names_after, a.its, b.its)
      (ap (λ (l : List Row). record { name = m; figures = plus f g } ∷ l) (rows_after m _ _ (sorted (names rs' ++ names qs')) names_after (λ n e. ap₂ plus (a.others n e) (b.others n e))))

module _ (x y : List ℕ) where
  -- the first section has it alone
  left_first : (r : Row) (rs qs : List Row) → rising (names (r ∷ rs)) ≡ true → rising (names qs) ≡ true → under r.name (names qs) ≡ true →
      add_rows x y (r ∷ rs) qs ≡ record { name = r.name; figures = plus r.figures y } ∷ add_rows x y rs qs
  unfolding gather_by names rows_of
  left_first r rs qs h k e =
      least_row r.name x y (from_first r.name x r rs (order_self r.name) h) (from_none r.name y qs e k) (insert_again r.name (sorted (names rs ++ names qs)))

  -- both have it
  both_first : (r q : Row) (rs qs : List Row) → rising (names (r ∷ rs)) ≡ true → rising (names (q ∷ qs)) ≡ true → order r.name q.name ≡ Equal →
      add_rows x y (r ∷ rs) (q ∷ qs) ≡ record { name = r.name; figures = plus r.figures q.figures } ∷ add_rows x y rs qs
  unfolding gather_by names rows_of
  both_first r q rs qs h k e =
      least_row r.name x y (from_first r.name x r rs (order_self r.name) h) (from_first r.name y q qs e k)
      (insert_again r.name (sorted (names rs ++ names (q ∷ qs))))

  -- the second has it alone
  right_first : (q : Row) (rs qs : List Row) → rising (names rs) ≡ true → rising (names (q ∷ qs)) ≡ true → under q.name (names rs) ≡ true →
      add_rows x y rs (q ∷ qs) ≡ record { name = q.name; figures = plus x q.figures } ∷ add_rows x y rs qs
  unfolding gather_by names rows_of
  right_first q rs qs h k e =
      least_row q.name x y (from_none q.name x rs e h) (from_first q.name y q qs (order_self q.name) k)
      (rw (sorted_two (names rs) (names (q ∷ qs))) (insert_again q.name (sorted (names qs ++ names rs))))

  pub add_step : (rs qs : List Row) → rising (names rs) ≡ true → rising (names qs) ≡ true → 0 < length rs + length qs →
      let o = next_of (names rs) (names qs) in
      add_rows x y rs qs ≡ next_row o x y rs qs ∷ add_rows x y (drop (left_step o) rs) (drop (right_step o) qs)
  unfolding names rows_of
  add_step [] [] h k l = absurd (omega arith)
  add_step [] (q ∷ qs) h k l = right_first q [] qs h k refl
  add_step (r ∷ rs) [] h k l = left_first r rs [] h k refl
  add_step (r ∷ rs) (q ∷ qs) h k l = go (order r.name q.name) refl
    where
      go : (o : Ordering) → order r.name q.name ≡ o → add_rows x y (r ∷ rs) (q ∷ qs) ≡ next_row o x y (r ∷ rs) (q ∷ qs) ∷ add_rows x y (drop (left_step o) (r ∷ rs)) (drop (right_step o) (q ∷ qs))
      go Less e = left_first r rs (q ∷ qs) h k (rw e)
      go Equal e = both_first r q rs qs h k e
      go Greater e = right_first q (r ∷ rs) qs h k (rw (turn r.name q.name Greater e))

  pub add_end : add_rows x y [] [] ≡ []
  unfolding add_rows gather_by names rows_of
  add_end = refl
