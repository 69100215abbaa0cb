-- `adding::put::put_row` meets its contract: the name, the figures and the end are put one after another, and each has room since the line has.
use Rattle.adding.specs.MergeCode.{row_with}
use Rattle.adding.proofs.Puts.{figures_room, row_put}
use Rattle.adding.proofs.put.put_row.Goals as goal

pub put_figures-two-requires : goal.put_figures-two-requires
put_figures-two-requires c = figures_room c.args.out.now c.args.at ((row_with c.args.section c.args.name.now c.args.f)) c.requires c.put_bytes-one.ensures

pub returns : goal.returns
returns c = row_put c.args.out.now c.args.at ((row_with c.args.section c.args.name.now c.args.f)) c.requires c.put_bytes-one.ensures c.put_figures-two.ensures c.put_bytes.ensures
