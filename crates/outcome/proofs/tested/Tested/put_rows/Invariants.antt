-- `outcome::tested::Tested::put_rows` meets its contract. The invariant: the lines of the first i rows are put.
use Rattle.std.proofs.Common.{◌≡◌}
use Rattle.text.specs.Put.{after, put}
use Rattle.bill.specs.Text.{rows_text}
use Rattle.sheet.specs.Sheet.{rows_to}
use Rattle.outcome.proofs.tested.Tested.put_rows.Given as goal

abbrev pub invariant-loop-i : goal.invariant-loop-i
invariant-loop-i l = after l.next l.out ≡ put l.initial.out l.at (rows_text (rows_to l.section l.self.names.now l.self.nums.now l.self.ticks.now l.i))
