-- `line::writing::put_kind_field` meets its contract: the word of the type, and the comma after it, are put one after the other.
use Rattle.text.proofs.Writes.{put_two}
use Rattle.line.specs.Writing.{name_field}
use Rattle.line.proofs.writing.put_kind_field.Goals as goal

pub returns : goal.returns
unfolding name_field
returns c = put_two _ _ _ _ c.put_kind-comma.ensures c.put_comma.ensures c.requires
