-- `outcome::row::figures_length` meets its contract: the digits of each figure, and a blank for each. No sum wraps, since a figure has at most 20 digits.
use Rattle.std.proofs.Common.{arith}
use Rattle.text.proofs.Digits.{digits_short}
use Rattle.bill.proofs.Texts.{length_figure, length_three}
use Rattle.outcome.proofs.row.figures_length.Goals as goal

pub overflow_add-result : goal.overflow_add-result
overflow_add-result c = omega (arith, digits_short)

pub overflow_add-result-in-Cores : goal.overflow_add-result-in-Cores
overflow_add-result-in-Cores c = omega (arith, digits_short)

pub overflow_add-result-in-Cores-2 : goal.overflow_add-result-in-Cores-2
overflow_add-result-in-Cores-2 c = omega (arith, digits_short)

pub returns-in-Cores : goal.returns-in-Cores
returns-in-Cores c = rw (c.in-Cores.is, ← c.held_ticks.ensures, ← c.idle_ticks.ensures) (omega (arith, length_three))

pub overflow_add-result-in-Processes : goal.overflow_add-result-in-Processes
overflow_add-result-in-Processes c = omega (arith, digits_short)

pub returns-in-Processes : goal.returns-in-Processes
returns-in-Processes c = rw (c.in-Processes.is, ← c.charge.ensures) (omega (arith, length_figure))
