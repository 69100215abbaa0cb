-- `adding::put::put_figures` meets its contract: the figures are put one after another, and all have room.
use Rattle.adding.proofs.Puts.{core_figures_lem, process_figures_lem}
use Rattle.adding.proofs.put.put_figures.Goals as goal

pub returns-in-Cores : goal.returns-in-Cores
returns-in-Cores c = core_figures_lem _ _ _ c.in-Cores.is c.requires c.put_figure-one.ensures c.put_figure-two.ensures c.put_figure.ensures

pub returns-in-Processes : goal.returns-in-Processes
returns-in-Processes c = process_figures_lem _ _ _ c.in-Processes.is c.put_figure-in-Processes.ensures
