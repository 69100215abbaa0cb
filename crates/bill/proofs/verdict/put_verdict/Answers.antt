-- `bill::verdict::put_verdict` meets its contract: where there is no room nothing is put, and otherwise the number tells which of the two lines it is.
use mathlib.Core.Path.{sym, ap}
use mathlib.Core.Bool.{not}
use Prim.Native.Nat.{◌+◌, ◌≤◌}
use native.Mathlib.Omega.{arith}
use lib.ListN.{length}
use Rattle.text.proofs.Writes.{put_full, no_room, has_room}
use Rattle.bill.specs.Verdict.{verdict_text}
use Rattle.bill.proofs.VerdictLine.{verdict_accepted, verdict_refused}
use Rattle.bill.proofs.verdict.put_verdict.Goals as goal

pub returns-then-not-room : goal.returns-then-not-room
returns-then-not-room c =
    let a = c.args in
    let l = c.verdict_length in
    let h = no_room _ (a.at + l.result) (length a.out.now) c.room.ensures (ap not c.if-not-room.true) in
    sym (put_full a.out.now a.at (verdict_text a.v) (omega (arith, l.ensures)))

pub put_accepted-requires : goal.put_accepted-requires
put_accepted-requires c =
    let a = c.args in
    let l = c.verdict_length in
    let h : a.at + length (verdict_text a.v) ≤ length a.out.now = omega (arith, l.ensures, has_room _ (a.at + l.result) (length a.out.now) c.room.ensures (ap not c.if-not-room.false)) in
    rw (verdict_accepted a.v c.if-v-eq0.true) at h

pub returns-then-v-eq0 : goal.returns-then-v-eq0
returns-then-v-eq0 c = rw (verdict_accepted c.args.v c.if-v-eq0.true) c.put_accepted.ensures

pub put_refused-requires : goal.put_refused-requires
put_refused-requires c =
    let a = c.args in
    let l = c.verdict_length in
    let h : a.at + length (verdict_text a.v) ≤ length a.out.now = omega (arith, l.ensures, has_room _ (a.at + l.result) (length a.out.now) c.room.ensures (ap not c.if-not-room.false)) in
    rw (verdict_refused a.v c.if-v-eq0.false) at h

pub returns : goal.returns
returns c = rw (verdict_refused c.args.v c.if-v-eq0.false) c.put_refused.ensures
