-- `line::writing::put_line` meets its contract: the fields are put one after another, and each has room since the line has.
use native.Mathlib.Nat.{zero-add}
use Rattle.text.proofs.Writes.{put_then}
use Rattle.line.specs.Writing.{text_of}
use Rattle.line.proofs.Texts.{all_room, first_room, next_room}
use Rattle.line.proofs.writing.put_line.Goals as goal

pub put_number_field-a2-requires : goal.put_number_field-a2-requires
put_number_field-a2-requires c = first_room (all_room _ c.args.event _ _ _ c.requires)

pub put_name_field-a3-requires : goal.put_name_field-a3-requires
put_name_field-a3-requires c = first_room (next_room (all_room _ c.args.event _ _ _ c.requires) c.put_number_field-a2.ensures)

pub put_number_field-a4-requires : goal.put_number_field-a4-requires
put_number_field-a4-requires c = first_room (next_room (next_room (all_room _ c.args.event _ _ _ c.requires) c.put_number_field-a2.ensures) c.put_name_field-a3.ensures)

pub put_kind_field-a5-requires : goal.put_kind_field-a5-requires
put_kind_field-a5-requires c = first_room (next_room (next_room (next_room (all_room _ c.args.event _ _ _ c.requires) c.put_number_field-a2.ensures) c.put_name_field-a3.ensures) c.put_number_field-a4.ensures)

pub put_name_field-a6-requires : goal.put_name_field-a6-requires
put_name_field-a6-requires c = first_room (next_room (next_room (next_room (next_room (all_room _ c.args.event _ _ _ c.requires) c.put_number_field-a2.ensures) c.put_name_field-a3.ensures) c.put_number_field-a4.ensures) c.put_kind_field-a5.ensures)

pub put_number_field-a7-requires : goal.put_number_field-a7-requires
put_number_field-a7-requires c = first_room (next_room (next_room (next_room (next_room (next_room (all_room _ c.args.event _ _ _ c.requires) c.put_number_field-a2.ensures) c.put_name_field-a3.ensures) c.put_number_field-a4.ensures) c.put_kind_field-a5.ensures) c.put_name_field-a6.ensures)

pub put_note-requires : goal.put_note-requires
put_note-requires c = first_room (next_room (next_room (next_room (next_room (next_room (next_room (next_room (all_room _ c.args.event _ _ _ c.requires) c.put_number_field-a2.ensures) c.put_name_field-a3.ensures) c.put_number_field-a4.ensures) c.put_kind_field-a5.ensures) c.put_name_field-a6.ensures) c.put_number_field-a7.ensures) c.put_word-a8.ensures)

pub returns : goal.returns
unfolding text_of
returns c =
    put_then _ _ _ _
    (put_then _ _ _ _
    (put_then _ _ _ _
    (put_then _ _ _ _
    (put_then _ _ _ _
    (put_then _ _ _ _
    (put_then _ _ _ _ (λ i. c.put_number_field-a2.ensures) c.put_name_field-a3.ensures)
    c.put_number_field-a4.ensures)
    c.put_kind_field-a5.ensures)
    c.put_name_field-a6.ensures)
    c.put_number_field-a7.ensures)
    c.put_word-a8.ensures)
    c.put_note.ensures
    (rw zero-add c.requires)
