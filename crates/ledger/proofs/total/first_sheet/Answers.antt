-- What was read is held whole where it may be added, since then it is short enough.
use Rattle.std.proofs.Common.{◌≤◌, length, arith, rules}
use Rattle.ledger.proofs.Steps.{first_held, first_refused}
use Rattle.ledger.proofs.total.first_sheet.Goals as goal

pub returns-then-sound : goal.returns-then-sound
returns-then-sound g c =
    let fit : c.in_ok-n.n ≤ length c.read_argument.new.buf = search rules in
    first_held _ _ fit (omega arith) (λ i. search rules) c.sound.ensures _ c.if-sound.true (search rules) c.put_bytes.ensures

pub returns : goal.returns
returns g c =
    let fit : c.in_ok-n.n ≤ length c.read_argument.new.buf = search rules in
    first_refused _ _ fit (omega arith) (λ i. search rules) c.sound.ensures c.if-sound.false
