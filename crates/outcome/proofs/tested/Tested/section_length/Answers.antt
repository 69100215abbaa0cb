-- `outcome::tested::Tested::section_length` meets its contract: the title, the digits of the count, an end and the lines. No sum wraps, since a section is
-- short.
use Rattle.std.proofs.Common.{arith}
use Rattle.bill.proofs.Texts.{length_section}
use Rattle.ranges.proofs.Valid.{valid}
use Rattle.sheet.proofs.Short.{section_short}
use Rattle.outcome.proofs.tested.Tested.section_length.Goals as goal

pub overflow_add-result : goal.overflow_add-result
overflow_add-result c =
    omega (arith, length_section, rw c.rows_count-count.ensures at c.digit_count.ensures, section_short (valid _ _ _ c.args.self.in_range) c.args.section)

pub overflow_add-result-2 : goal.overflow_add-result-2
overflow_add-result-2 c =
    omega (arith, length_section, rw c.rows_count-count.ensures at c.digit_count.ensures, section_short (valid _ _ _ c.args.self.in_range) c.args.section)

pub overflow_add-result-3 : goal.overflow_add-result-3
overflow_add-result-3 c =
    omega (arith, length_section, rw c.rows_count-count.ensures at c.digit_count.ensures, section_short (valid _ _ _ c.args.self.in_range) c.args.section)

pub returns : goal.returns
returns c = omega (arith, length_section, rw c.rows_count-count.ensures at c.digit_count.ensures)
