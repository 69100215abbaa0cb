-- `adding::add::add_read` meets its contract: 22 and 23 first, and then the rows.
use mathlib.Core.Path.{sym, ap}
use Rattle.std.proofs.lemmas.Result.{err_from_is_err_and}
use Rattle.adding.specs.Adding.{into_output, add_into}
use Rattle.adding.proofs.add.add_read.Goals as goal

pub returns-in_err-pair_refusal : goal.returns-in_err-pair_refusal
unfolding add_into
returns-in_err-pair_refusal c =
    let p = err_from_is_err_and c.from_residual.result c.from_residual.ensures.1 in
    rw (p.1, p.2) (ap (λ r. into_output r c.args.out.now) (sym c.in_err-pair_refusal.ensures))
