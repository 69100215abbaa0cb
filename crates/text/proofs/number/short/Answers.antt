use Rattle.std.proofs.Common.{arith, rules}
use Rattle.text.proofs.Numbers.{fold_is, below_17}
use Rattle.text.proofs.number.short.Goals as goal

pub loop-b-init : goal.loop-b-init
loop-b-init c = (search rules, fold_is c.args.max 0 c.args.s.now (omega arith))

pub overflow_mul-v : goal.overflow_mul-v
overflow_mul-v c = omega (arith, below_17 c.loop-b.v c.loop-b.b-index c.loop-b.invariant.0 (omega arith))

pub overflow_add-v : goal.overflow_add-v
overflow_add-v c = omega (arith, below_17 c.loop-b.v c.loop-b.b-index c.loop-b.invariant.0 (omega arith))
