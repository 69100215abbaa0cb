-- `line::writing::put_note` meets its contract: for an empty note nothing is put, and otherwise a comma and the note.
use mathlib.Core.Path.{sym}
use Rattle.text.proofs.Writes.{put_two}
use Rattle.line.proofs.Texts.{note_none, note_some, put_none}
use Rattle.line.proofs.writing.put_note.Goals as goal

pub returns-then-note-eq0 : goal.returns-then-note-eq0
returns-then-note-eq0 c =
    let e = note_none c.args.note.now c.if-note-eq0.true in
    rw e (sym (put_none _ _ (rw e at c.requires)))

pub returns : goal.returns
returns c =
    let e = note_some c.args.note.now c.if-note-eq0.false in
    rw e (put_two _ _ _ _ c.put_comma-text.ensures c.put_bytes.ensures (rw e at c.requires))
