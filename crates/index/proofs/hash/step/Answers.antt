-- `index::hash::step` meets its contract: so many times the sum that wrapped.
use Rattle.index.proofs.Folds.{step_wraps}
use Rattle.index.proofs.hash.step.Goals as goal

pub returns : goal.returns
returns c = step_wraps _ _ _ c.wrapping_add_u32.ensures.value
