-- The word, the number and the end are put one after another.
use Rattle.std.proofs.Common.{arith}
use Rattle.add.proofs.Lines.{put_line}
use Rattle.add.proofs.put_refused.Goals as goal

pub returns : goal.returns
returns c = put_line c.args.number (omega arith) _ c.put_bytes-one.ensures c.put_number-two.ensures c.put_bytes.ensures c.requires
