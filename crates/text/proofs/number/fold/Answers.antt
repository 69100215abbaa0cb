use Rattle.std.proofs.Common.{sym, ◌∙◌}
use Rattle.text.proofs.Numbers.{fold_turn, folded_bad}
use Rattle.text.proofs.number.fold.Goals as goal

pub returns-in_err-v : goal.returns-in_err-v
returns-in_err-v c =
    let a = c.args in
    let l = c.loop-b in
    c.from_residual.ensures
    ∙ sym (l.invariant ∙ fold_turn a.max l.v a.s.now l.b-index c.loop-b-test.true ∙ rw (← c.push.ensures, c.in_err-v.was, folded_bad))
