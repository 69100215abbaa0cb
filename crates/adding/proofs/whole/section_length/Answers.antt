-- `adding::whole::section_length` meets its contract: a title and a count are short.
use native.Mathlib.Omega.{arith}
use Rattle.text.proofs.Digits.{digits_short}
use Rattle.adding.proofs.Made.{title_short}
use Rattle.adding.proofs.whole.section_length.Goals as goal

pub overflow_add-result : goal.overflow_add-result
overflow_add-result c = omega (arith, title_short c.args.section, digits_short c.args.count (omega arith))

pub overflow_add-result-2 : goal.overflow_add-result-2
overflow_add-result-2 c = omega (arith, title_short c.args.section, digits_short c.args.count (omega arith))

pub overflow_add-result-3 : goal.overflow_add-result-3
overflow_add-result-3 c = omega (arith, title_short c.args.section, digits_short c.args.count (omega arith))

pub returns : goal.returns
returns c = (omega arith, omega (arith, title_short c.args.section, digits_short c.args.count (omega arith)))
