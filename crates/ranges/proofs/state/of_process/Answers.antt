-- `ranges::state::of_process` meets its contract: its tests are the chart's at every number.
use Rattle.ranges.proofs.States.{process_states}
use Rattle.ranges.proofs.state.of_process.Goals as goal

pub returns : goal.returns
returns c = process_states c.args.state
