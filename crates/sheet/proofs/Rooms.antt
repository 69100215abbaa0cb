-- Each piece of a sheet's text has room where all of them have.
use mathlib.Core.List.{List, [], ◌∷◌}
use Prim.Native.Nat.{ℕ, ◌+◌, ◌≤◌}
use native.Mathlib.Omega.{arith}
use lib.ListN.{length}
use Rattle.text.specs.Number.{digits_of}
use Rattle.line.proofs.Texts.{Room}
use Rattle.bill.specs.Rows.{Row}
use Rattle.bill.specs.Text.{figures_text, row_text, rows_text, section_text}
use Rattle.bill.proofs.Texts.{length_row, length_section}

pub row_room : (l : List ℕ) (at : ℕ) (r : Row) → at + length (row_text r) ≤ length l → Room l at (r.name ∷ figures_text r.figures ∷ (10 ∷ []) ∷ [])
row_room l at r h = record { fit = omega (arith, length_row r) }

pub section_room : (l : List ℕ) (at : ℕ) (t : List ℕ) (rs : List Row)
    → at + length (section_text t rs) ≤ length l → Room l at (t ∷ digits_of (length rs) ∷ (10 ∷ []) ∷ rows_text rs ∷ [])
section_room l at t rs h = record { fit = omega (arith, length_section t rs) }
