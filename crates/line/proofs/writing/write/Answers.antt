-- `line::writing::write` meets its contract: a refused record and one that does not fit leave the output as it was, and any other is put.
use Rattle.std.proofs.Common.{sym, ap, ◌∙◌}
use Rattle.std.proofs.lemmas.Result.{err_from_is_err_and}
use Rattle.text.specs.Refusal.{answer_number}
use Rattle.text.proofs.Refusals.{number_not_0}
use Rattle.line.specs.Writing.{write_line}
use Rattle.line.proofs.Texts.{accepted_sizes, sized_lengths, write_refused, write_full, write_done}
use Rattle.line.proofs.writing.write.Goals as goal

pub returns-in_err-may_be_written : goal.returns-in_err-may_be_written
unfolding write_line
returns-in_err-may_be_written c =
    let p = err_from_is_err_and c.from_residual.result c.from_residual.ensures.1 in
    rw (p.1, p.2, ← c.in_err-may_be_written.ensures) (write_refused _ _ _ (number_not_0 c.in_err-may_be_written.field-0.0))

pub line_length-n-requires : goal.line_length-n-requires
line_length-n-requires c = sized_lengths _ _ _ _ (accepted_sizes _ _ _ _ (sym c.may_be_written.ensures ∙ ap answer_number c.in_ok-may_be_written.was))

pub returns-then-out-n : goal.returns-then-out-n
unfolding write_line
returns-then-out-n c =
    let z = ap answer_number c.in_ok-may_be_written.was in
    rw (← c.may_be_written.ensures) (write_full _ _ _ z (rw c.line_length-n.ensures at c.if-out-n.true))

pub returns : goal.returns
unfolding write_line
returns c =
    let z = ap answer_number c.in_ok-may_be_written.was in
    rw (← c.may_be_written.ensures, c.line_length-n.ensures) (write_done _ _ _ z (rw c.line_length-n.ensures at c.if-out-n.false) c.put_line.ensures)
