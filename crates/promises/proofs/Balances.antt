-- What adds up in the figures of a history adds up in the rows of its sheet.
use mathlib.Core.Path.{◌≡◌, refl, ap}
use mathlib.Core.List.{List, [], ◌∷◌}
use Prim.Native.Nat.{ℕ, ◌+◌}
use Rattle.text.specs.Lists.{sum_over}
use Rattle.rules.specs.Event.{Event}
use Rattle.rules.specs.Sheet.{held_ticks, idle_ticks, unknown_ticks, charge, core_rows, process_rows}
use Rattle.promises.specs.Sheets.{figure, Balanced}

module _ (h : List Event) where
  pub rows_balanced : (n : ℕ) → ((c : List ℕ) → held_ticks c h + idle_ticks c h + unknown_ticks c h ≡ n) → (cs : List (List ℕ)) → Balanced n (core_rows cs h)
  rows_balanced n f [] = tt
  rows_balanced n f (c ∷ cs) = (f c, rows_balanced n f cs)

  pub sum_held : (cs : List (List ℕ)) → sum_over (figure 0) (core_rows cs h) ≡ sum_over (λ c. held_ticks c h) cs
  sum_held [] = refl
  sum_held (c ∷ cs) = ap (λ n. held_ticks c h + n) (sum_held cs)

  pub sum_charges : (ps : List (List ℕ)) → sum_over (figure 0) (process_rows ps h) ≡ sum_over (λ p. charge p h) ps
  sum_charges [] = refl
  sum_charges (p ∷ ps) = ap (λ n. charge p h + n) (sum_charges ps)
