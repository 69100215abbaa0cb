-- `outcome::tested::Tested::row_length` meets its contract: the name, the figures and the end. No sum wraps, since a line is short.
use Rattle.std.proofs.Common.{arith}
use Rattle.bill.proofs.Texts.{length_row}
use Rattle.ranges.proofs.Valid.{valid}
use Rattle.sheet.proofs.Short.{name_sized, row_short}
use Rattle.outcome.proofs.tested.Tested.row_length.Goals as goal

pub overflow_add-result : goal.overflow_add-result
overflow_add-result c =
    let v = valid _ _ _ c.args.self.in_range in
    omega (arith, length_row, name_sized v c.args.i c.requires, row_short v c.args.section c.args.i c.requires)

pub overflow_add-result-2 : goal.overflow_add-result-2
overflow_add-result-2 c =
    let v = valid _ _ _ c.args.self.in_range in
    omega (arith, length_row, name_sized v c.args.i c.requires, row_short v c.args.section c.args.i c.requires)

pub returns : goal.returns
returns c = omega (arith, length_row, name_sized (valid _ _ _ c.args.self.in_range) c.args.i c.requires)
