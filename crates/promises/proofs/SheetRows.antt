-- The rows of a sheet are a name and its figures for each name listed: that their names are names, and their first figures together.
use mathlib.Core.Path.{◌≡◌, refl, ap}
use mathlib.Core.Bool.{true, or-true}
use mathlib.Core.List.{List, [], ◌∷◌}
use Prim.Native.Nat.{ℕ, suc, ◌+◌}
use lib.ListN.{get_or, length}
use Rattle.text.specs.Name.{is_name}
use Rattle.text.specs.Lists.{sum_over}
use Rattle.bill.specs.Rows.{Row, all_named}
use Rattle.sorting.specs.Order.{Name, order, is_same}
use Rattle.sorting.specs.Sets.{has}
use Rattle.sorting.proofs.Orders.{order_self}
use Rattle.shifts.specs.Sound.{names, first, firsts}
use Rattle.shifts.specs.Sum.{rows_of}
use Rattle.shifts.proofs.Rows.{names_rows}
use Rattle.rules.specs.Event.{Event}
use Rattle.rules.specs.Sheet.{core_rows, process_rows}
use Rattle.promises.specs.Sheets.{figure}
use Rattle.promises.specs.Shifts.{core_figures, process_figures}

pub core_rows_lem : (h : List Event) (cs : List Name) → core_rows cs h ≡ rows_of (core_figures h) cs
unfolding names rows_of
core_rows_lem h [] = refl
core_rows_lem h (c ∷ cs) = rw (core_rows_lem h cs)

pub process_rows_lem : (h : List Event) (ps : List Name) → process_rows ps h ≡ rows_of (process_figures h) ps
unfolding names rows_of
process_rows_lem h [] = refl
process_rows_lem h (p ∷ ps) = rw (process_rows_lem h ps)

pub rows_count : (f : Name → List ℕ) (ns : List Name) → length (rows_of f ns) ≡ length ns
unfolding names rows_of
rows_count f [] = refl
rows_count f (n ∷ ns) = ap suc (rows_count f ns)

pub core_names : (h : List Event) (cs : List Name) → names (core_rows cs h) ≡ cs
core_names h cs = rw (core_rows_lem h cs) (names_rows (core_figures h) cs)

pub process_names : (h : List Event) (ps : List Name) → names (process_rows ps h) ≡ ps
process_names h ps = rw (process_rows_lem h ps) (names_rows (process_figures h) ps)

pub rows_named : (f : Name → List ℕ) (ns : List Name) → ((n : Name) → has n ns ≡ true → is_name n ≡ true) → all_named (rows_of f ns) ≡ true
unfolding names rows_of
rows_named f [] w = refl
rows_named f (n ∷ ns) w = rw (w n (rw (order_self n)), rows_named f ns (λ m q. w m (rw q (or-true (is_same (order m n))))))

-- the first figures of all rows, as demand 3 adds them up
pub first_figures : (rs : List Row) → firsts rs ≡ sum_over (figure 0) rs
first_figures [] = refl
first_figures (r ∷ rs) = rw (first_figures rs) (ap (λ (m : ℕ). m + sum_over (figure 0) rs) (by_figures r.figures))
  where
    by_figures : (fs : List ℕ) → first fs ≡ get_or fs 0 0
    by_figures [] = refl
    by_figures (x ∷ fs) = refl
