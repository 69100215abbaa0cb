-- `outcome::tested::Tested::rows_length` meets its contract. The invariant: the sum is the length of the lines of the first i rows. It does not wrap, since
-- each line is short.
use Rattle.std.proofs.Common.{◌≡◌, length}
use Rattle.bill.specs.Text.{rows_text}
use Rattle.sheet.specs.Sheet.{rows_to}
use Rattle.outcome.proofs.tested.Tested.rows_length.Given as goal

abbrev pub invariant-loop-i : goal.invariant-loop-i
invariant-loop-i l = l.sum ≡ length (rows_text (rows_to l.section l.self.names.now l.self.nums.now l.self.ticks.now l.i))
