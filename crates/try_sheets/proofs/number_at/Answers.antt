-- `try_sheets::number_at` meets its contract: the end of the number lies behind its beginning, and what was read is small.
use mathlib.Core.Path.{sym, ◌∙◌}
use native.Mathlib.Omega.{arith}
use Rattle.text.proofs.Digits.{read_written}
use Rattle.text.proofs.Finds.{find_ge}
use Rattle.try_sheets.proofs.number_at.Goals as goal

pub slice_bounds-read_number-count : goal.slice_bounds-read_number-count
slice_bounds-read_number-count c =
    let a = c.args in
    omega (arith, c.find-stop.ensures, find_ge a.end a.s.now a.at)

pub slice_bounds-read_number-start : goal.slice_bounds-read_number-start
slice_bounds-read_number-start c =
    let a = c.args in
    omega (arith, c.find-stop.ensures, find_ge a.end a.s.now a.at)

pub returns : goal.returns
returns c =
    let a = c.args in
    let ge = find_ge a.end a.s.now a.at in
    record {
      small = (read_written _ 65536 _ (sym c.read_number.ensures ∙ c.in_ok-number.was)).1;
      within = omega (arith, c.find-stop.ensures);
      on = omega (arith, c.find-stop.ensures, ge);
      further = λ h. omega (arith, c.find-stop.ensures, ge);
    }
