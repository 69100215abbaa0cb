-- `text::put::put_bytes` meets its contract: where there is no room nothing is put, and otherwise the bytes written are.
use Rattle.std.proofs.Common.{ap, not, sym, refl, arith}
use Rattle.text.proofs.Writes.{put_full, put_done, copied, no_room, has_room}
use Rattle.text.proofs.put.put_bytes.Goals as goal

pub returns-then-not-room : goal.returns-then-not-room
returns-then-not-room c = sym (put_full _ _ _ (no_room _ _ _ c.room.ensures (ap not c.if-not-room.true)))

pub returns : goal.returns
returns c = put_done _ _ _ _ _ refl (has_room _ _ _ c.room.ensures (ap not c.if-not-room.false)) (copied _ _ _ _ _ c.copy_from_slice.ensures.after (omega arith) (has_room _ _ _ c.room.ensures (ap not c.if-not-room.false)))
