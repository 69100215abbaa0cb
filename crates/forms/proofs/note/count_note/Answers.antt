-- `forms::note::count_note` meets its contract: the number read is at most the greatest count, so that the cast keeps it.
use mathlib.Core.Path.{sym, ◌∙◌}
use native.Mathlib.Omega.{arith}
use Rattle.text.proofs.Digits.{read_written}
use Rattle.forms.specs.Note.{count_note}
use Rattle.forms.proofs.note.count_note.Goals as goal

pub returns-in_err-count : goal.returns-in_err-count
unfolding count_note
returns-in_err-count c = rw (c.from_residual.ensures, ← c.read_number.ensures, c.in_err-count.was)

pub overflow_cast-result : goal.overflow_cast-result
overflow_cast-result c =
    let h = (read_written _ _ _ (sym c.read_number.ensures ∙ c.in_ok-count.was)).1 in
    omega arith

pub returns : goal.returns
unfolding count_note
returns c = rw (← c.read_number.ensures, c.in_ok-count.was)
