-- `ranges::state::of_runnable` meets its contract: its tests are the chart's at every number.
use Rattle.ranges.proofs.States.{runnable_states}
use Rattle.ranges.proofs.state.of_runnable.Goals as goal

pub returns : goal.returns
returns c = runnable_states c.args.state
