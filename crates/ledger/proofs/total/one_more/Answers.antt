-- What was read is added to what is held, every sum fits, and it is held whole.
use Rattle.std.proofs.Common.{◌≤◌, length, arith, rules}
use Rattle.std.proofs.lemmas.Result.{err_from_is_err_and}
use Rattle.ledger.proofs.Steps.{sum_fits, more_held, more_refused, sum_passed, refusal_passed}
use Rattle.ledger.proofs.total.one_more.Goals as goal

pub returns-in_err-k : goal.returns-in_err-k
returns-in_err-k g c =
    let fit : c.in_ok-m.m ≤ length c.read_argument.new.buf = search rules in
    let p = err_from_is_err_and c.from_residual-in_err-k.result c.from_residual-in_err-k.ensures.1 in
    let q = refusal_passed _ c.map_err.ensures.cases c.in_err-k.was in
    rw (p.1, p.2, q.2) (more_refused c.args.held.now c.args.n _ _ fit (omega arith) (λ i. search rules) _ _ c.add.ensures (search rules) q.0 q.1)

pub slice_bounds-put_bytes-end : goal.slice_bounds-put_bytes-end
slice_bounds-put_bytes-end g c =
    let fit : c.in_ok-m.m ≤ length c.read_argument.new.buf = search rules in
    omega (
      arith,
      sum_fits c.args.held.now c.args.n _ _ fit (omega arith) (λ i. search rules) _ _ c.add.ensures (search rules) (sum_passed _ c.map_err.ensures.cases c.in_ok-k.was),
    )

pub returns : goal.returns
returns g c =
    let fit : c.in_ok-m.m ≤ length c.read_argument.new.buf = search rules in
    let sum = sum_passed _ c.map_err.ensures.cases c.in_ok-k.was in
    more_held c.args.held.now c.args.n _ _ fit (omega arith) (λ i. search rules) _ _ c.add.ensures (search rules) sum c.put_bytes.ensures c.requires.1 (search rules)
