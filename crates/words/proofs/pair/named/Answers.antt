-- `words::pair::named` meets its contract: first the type, then the event of that type.
use Rattle.words.specs.Pair.{named_by}
use Rattle.words.proofs.pair.named.Goals as goal

pub returns-in_err-kind : goal.returns-in_err-kind
unfolding named_by
returns-in_err-kind c = rw (c.from_residual.ensures, ← c.kind_of.ensures, c.in_err-kind.was)

pub returns-in_err-action : goal.returns-in_err-action
unfolding named_by
returns-in_err-action c =
    rw (c.from_residual-in_err-action.ensures, ← c.kind_of.ensures, c.in_ok-kind.was, ← c.action_of.ensures, c.in_err-action.was)

pub returns : goal.returns
unfolding named_by
returns c = rw (← c.kind_of.ensures, c.in_ok-kind.was, ← c.action_of.ensures, c.in_ok-action.was)
