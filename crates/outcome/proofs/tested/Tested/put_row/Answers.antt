-- `outcome::tested::Tested::put_row` meets its contract: the name, the figures and the end are put one after another, and each has room since the line has.
use Rattle.std.proofs.Common.{[], ◌∷◌, ◌++◌, arith}
use Rattle.text.proofs.Writes.{put_two, put_then}
use Rattle.line.proofs.Texts.{first_room, next_room}
use Rattle.bill.specs.Text.{figures_text, row_text}
use Rattle.tables.proofs.NameBytes.{lent_name}
use Rattle.ranges.proofs.Valid.{valid}
use Rattle.sheet.specs.Sheet.{row_in}
use Rattle.sheet.proofs.Rooms.{row_room}
use Rattle.outcome.proofs.tested.Tested.put_row.Goals as goal

pub put_figures-two-requires : goal.put_figures-two-requires
put_figures-two-requires c =
    let a = c.args in
    let v = valid _ _ _ c.args.self.in_range in
    let r = row_in a.section a.self.names.now a.self.nums.now a.self.ticks.now a.i in
    let name = rw (lent_name a.self.names.now a.self.nums.now a.i) at c.put_bytes-one.ensures in
    (omega (arith, v), (v.name_count_lem, first_room (next_room (row_room _ _ r c.requires.1) name)))

pub returns : goal.returns
unfolding row_text
returns c =
    let a = c.args in
    let r = row_in a.section a.self.names.now a.self.nums.now a.self.ticks.now a.i in
    let name = rw (lent_name a.self.names.now a.self.nums.now a.i) at c.put_bytes-one.ensures in
    put_then _ _ (r.name ++ figures_text r.figures) (10 ∷ [])
    (put_two _ _ r.name (figures_text r.figures) name c.put_figures-two.ensures)
    c.put_bytes.ensures
    c.requires.1
