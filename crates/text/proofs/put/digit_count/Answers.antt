-- `text::put::digit_count` meets its contract.
use Rattle.std.proofs.Common.{sym, arith}
use Rattle.text.proofs.Digits.{length_small, length_log}
use Rattle.text.proofs.put.digit_count.Goals as goal

pub returns-in-Some : goal.returns-in-Some
returns-in-Some c = length_log c.in-Some.k c.args.x c.in-Some.ensures.power_le c.in-Some.ensures.next_power_gt

pub returns-in-None : goal.returns-in-None
returns-in-None c = sym (length_small c.args.x (omega (arith, c.in-None.ensures.none)))
