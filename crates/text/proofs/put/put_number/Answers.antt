-- `text::put::put_number` meets its contract: where there is no room nothing is put, and otherwise the digits written are.
use Rattle.std.proofs.Common.{not, ◌+◌, length, sym, ap, arith}
use Rattle.text.proofs.Writes.{put_full, put_done, no_room, has_room}
use Rattle.text.proofs.put.put_number.Goals as goal

pub returns-then-not-room : goal.returns-then-not-room
returns-then-not-room c =
    let a = c.args in
    sym (put_full _ _ _ (omega (arith, no_room _ (a.at + c.digit_count-n.result) (length a.out.now) c.room.ensures (ap not c.if-not-room.true))))

pub returns : goal.returns
returns c = put_done _ _ _ _ _ c.digit_count-n.ensures (has_room _ _ _ c.room.ensures (ap not c.if-not-room.false)) c.store_digits.ensures
