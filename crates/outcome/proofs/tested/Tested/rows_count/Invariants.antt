-- `outcome::tested::Tested::rows_count` meets its contract. The invariant: the count is that of the first i rows.
use Rattle.std.proofs.Common.{◌≡◌, length}
use Rattle.sheet.specs.Sheet.{rows_to}
use Rattle.outcome.proofs.tested.Tested.rows_count.Given as goal

abbrev pub invariant-loop-i : goal.invariant-loop-i
invariant-loop-i l = l.count ≡ length (rows_to l.section l.self.names.now l.self.nums.now l.self.ticks.now l.i)
