-- `outcome::tested::Tested::put_section` meets its contract: the title, the count, an end and the lines are put one after another, and each has room since the
-- section has.
use Rattle.std.proofs.Common.{[], ◌∷◌, ◌++◌, length, arith}
use Rattle.text.specs.Number.{digits_of}
use Rattle.text.proofs.Writes.{put_two, put_then}
use Rattle.line.proofs.Texts.{first_room, next_room}
use Rattle.bill.specs.Text.{rows_text, section_text, title}
use Rattle.sheet.specs.Sheet.{rows_in}
use Rattle.sheet.proofs.Rooms.{section_room}
use Rattle.outcome.proofs.tested.Tested.put_section.Goals as goal

pub put_rows-requires : goal.put_rows-requires
put_rows-requires c =
    let count = rw c.rows_count-count.ensures at c.put_number-two.ensures in
    let room = next_room (next_room (section_room _ _ _ _ c.requires) c.put_title-one.ensures) count in
    first_room (next_room room c.put_bytes-three.ensures)

pub returns : goal.returns
unfolding section_text
returns c =
    let rs = rows_in c.args.section c.args.self.names.now c.args.self.nums.now c.args.self.ticks.now in
    let t = title c.args.section in
    let n = digits_of (length rs) in
    let count = rw c.rows_count-count.ensures at c.put_number-two.ensures in
    let room = next_room (next_room (section_room _ _ t rs c.requires) c.put_title-one.ensures) count in
    put_then _ _ (t ++ n) (10 ∷ rows_text rs)
    (put_two _ _ t n c.put_title-one.ensures count)
    (put_two _ _ (10 ∷ []) (rows_text rs) c.put_bytes-three.ensures c.put_rows.ensures (omega (arith, room.fit)))
    c.requires
