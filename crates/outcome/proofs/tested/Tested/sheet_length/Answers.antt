-- `outcome::tested::Tested::sheet_length` meets its contract: the lengths of the two sections. Their sum does not wrap, since a sheet is short.
use Rattle.std.proofs.Common.{arith}
use Rattle.ranges.proofs.Valid.{valid}
use Rattle.sheet.proofs.Short.{sheet_fits}
use Rattle.sheet.proofs.Written.{sheet_length}
use Rattle.outcome.proofs.tested.Tested.sheet_length.Goals as goal

pub overflow_add-result : goal.overflow_add-result
overflow_add-result c = omega (arith, sheet_length, sheet_fits (valid _ _ _ c.args.self.in_range))

pub returns : goal.returns
returns c = omega (arith, sheet_length)
