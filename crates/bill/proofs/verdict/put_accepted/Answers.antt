-- `bill::verdict::put_accepted` meets its contract: the pieces of the line are put one after another.
use Rattle.bill.specs.Verdict.{accepted_text}
use Rattle.bill.proofs.VerdictLine.{put_five}
use Rattle.bill.proofs.verdict.put_accepted.Goals as goal

-- e1 to e5 are the places after the pieces, k0 to k4 those before them, where the output is known
pub returns : goal.returns
unfolding accepted_text
returns c =
    put_five _ _ _ _ _ _ _ c.put_bytes-one.ensures (rw c.scale_word.ensures at c.put_bytes-two.ensures) c.put_bytes-three.ensures c.put_number-four.ensures c.put_bytes.ensures
    c.requires
