-- `ranges::state::state_ok` meets its contract: a process has the states of its chart, and of the other kinds a runnable alone has any.
use mathlib.Core.Path.{sym, ◌∙◌}
use Rattle.ranges.proofs.States.{of_process, of_others}
use Rattle.ranges.proofs.state.state_ok.Goals as goal

pub returns-then-is_process : goal.returns-then-is_process
returns-then-is_process c = rw (of_process _ _ (sym c.is_process.ensures ∙ c.if-is_process.true)) c.of_process.ensures

pub returns : goal.returns
returns c = rw (of_others _ _ (sym c.is_process.ensures ∙ c.if-is_process.false), c.of_runnable.ensures)
