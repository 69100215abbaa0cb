-- `words::code::action_code` meets its contract: the events stand in the order of their codes.
use Rattle.words.proofs.Tags.{tag_code}
use Rattle.words.proofs.code.action_code.Goals as goal

pub returns : goal.returns
returns c = tag_code c.args.action
