-- What it writes is the line of the refusal.
use mathlib.Core.Logic.{inr}
use Rattle.std.proofs.Common.{arith, rules}
use Rattle.add.proofs.Lines.{line_is}
use Rattle.add.proofs.print_refused.Goals as goal

pub print-requires : goal.print-requires
print-requires c = inr (line_is c.args.number (omega arith) _ (search rules) c.put_refused-n.ensures c.requires)
