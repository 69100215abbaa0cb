-- Where a text is read as a sheet that may be added, and where it is none: too long, no form, sums that are wrong, a name that stands twice.
use Rattle.std.proofs.Common.{None, Some}
use mathlib.Core.Path.{◌≡◌, subst}
use mathlib.Core.Bool.{Bool, true, false, not}
use mathlib.Core.List.{List, []}
use Prim.Native.Nat.{ℕ, ◌<◌}
use native.Mathlib.Omega.{arith}
use lib.ListN.{length, get_or}
use borrow.Author.Tests.{not-true, not-false}
use Rattle.text.specs.Sizes.{name_limit, core_limit}
use Rattle.text.specs.Pieces.{pieces}
use Rattle.text.proofs.Bools.{clash}
use Rattle.shifts.specs.Sound.{sound_sheet}
use Rattle.shifts.specs.Sizes.{sheet_most}
use Rattle.adding.specs.declared.form.Form.{Form}
use Rattle.adding.specs.FormCode.{core_places, process_places, Formed}
use Rattle.adding.specs.SheetCode.{RightAs, RowsRight, Read}
use Rattle.adding.proofs.SheetTests.{head_told, not_passing}
use Rattle.adding.proofs.Sheets.{core_names, process_names, booked}

-- nothing is read

pub too_long : (text : List ℕ) → sheet_most < length text → sound_sheet text ≡ None
too_long text h = not_passing text (λ p. omega (arith, p.long))

pub unread : (text cores processes : List ℕ) → length cores ≡ core_limit → length processes ≡ name_limit → sound_sheet text ≡ None → Read text cores processes None
unread text cores processes h g s = record { cores_sized = h; processes_sized = g; told = s }

-- ---- the form is read, and the rows are right, or not

module _ (text starts : List ℕ) (f : Form) (formed : Formed text starts f) where
  wrong : (cores processes : List ℕ) → RightAs false text (core_places starts f) (process_places starts f) f.span cores processes → sound_sheet text ≡ None
  wrong cores processes w = not_passing text (λ p.
      let h = head_told (get_or (pieces 10 text) 0 []) f.scale f.span formed.head in
      let o = w (rw (h.span_is, ← formed.core_lines_told, ← formed.process_lines_told) at p.sums) in
      let c = rw (core_names formed) at p.cores_once in
      let q = rw (process_names formed) at p.processes_once in
      let m = rw (core_names formed, process_names formed) at p.apart in
      clash _ o (rw (c, q, m)))

  module _ (cores processes : List ℕ) (r : Bool) (n : RowsRight text (core_places starts f) (process_places starts f) f.span cores processes r) where
    pub rows_wrong : not r ≡ true → sound_sheet text ≡ None
    rows_wrong d = wrong cores processes (subst (λ t. RightAs t text (core_places starts f) (process_places starts f) f.span cores processes) (not-true r d) n.told)

    pub sheet_read : not r ≡ false → Read text cores processes (Some f)
    sheet_read d =
        let o = subst (λ t. RightAs t text (core_places starts f) (process_places starts f) f.span cores processes) (not-false r d) n.told in
        record {
          cores_sized = n.cores_sized;
          processes_sized = n.processes_sized;
          told = booked formed o.0 o.1 n.cores_sized n.processes_sized;
        }
