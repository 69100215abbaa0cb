-- `outcome::row::put_figures` meets its contract: the figures are put one after another, and all have room.
use Rattle.text.proofs.Writes.{put_two, put_then}
use Rattle.bill.proofs.Texts.{three_figures}
use Rattle.tables.specs.Entry.{unknown_at}
use Rattle.outcome.proofs.row.put_figures.Goals as goal

pub returns-in-Cores : goal.returns-in-Cores
returns-in-Cores c =
    let t = three_figures c.held_ticks.result c.idle_ticks.result (unknown_at c.args.ticks.now c.args.i) in
    let room = rw (c.in-Cores.is, ← c.held_ticks.ensures, ← c.idle_ticks.ensures, t) at c.requires.1.1 in
    rw (c.in-Cores.is, ← c.held_ticks.ensures, ← c.idle_ticks.ensures, t)
    (put_then _ _ _ _ (put_two _ _ _ _ c.put_figure-one.ensures c.put_figure-two.ensures) c.put_figure.ensures room)
