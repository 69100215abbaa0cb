-- `bill::figure::put_figure` meets its contract: where there is no room nothing is put, and otherwise a blank and the digits, one after the other.
use mathlib.Core.Path.{sym, ◌∙◌}
use mathlib.Core.List.{[], ◌∷◌}
use native.Mathlib.Omega.{arith}
use borrow.Author.Tests.{leb-true, leb-false}
use Rattle.text.specs.Number.{digits_of}
use Rattle.text.proofs.Digits.{digits_short}
use Rattle.text.proofs.Writes.{put_full, put_two}
use Rattle.bill.specs.Text.{figures_text}
use Rattle.bill.proofs.Texts.{figure_text, length_figure}
use Rattle.bill.proofs.figure.put_figure.Goals as goal

pub overflow_add-length : goal.overflow_add-length
overflow_add-length c = omega (arith, digits_short c.args.n (omega arith))

pub returns-then-not-room : goal.returns-then-not-room
returns-then-not-room c =
    let a = c.args in
    let full = sym c.room.ensures ∙ c.if-not-room.true in
    sym (put_full a.out.now a.at (figures_text (a.n ∷ [])) (omega (arith, leb-false, length_figure a.n, c.digit_count-length.ensures)))

pub returns : goal.returns
returns c =
    let a = c.args in
    let roomy = sym c.room.ensures ∙ c.if-not-room.false in
    rw (figure_text a.n)
    (put_two _ _ (32 ∷ []) (digits_of a.n) c.put_bytes-next.ensures c.put_number.ensures (omega (arith, leb-true, c.digit_count-length.ensures)))
