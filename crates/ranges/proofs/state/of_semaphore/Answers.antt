-- `ranges::state::of_semaphore` meets its contract: its tests are the chart's at every number.
use Rattle.ranges.proofs.States.{semaphore_states}
use Rattle.ranges.proofs.state.of_semaphore.Goals as goal

pub returns : goal.returns
returns c = semaphore_states c.args.state
