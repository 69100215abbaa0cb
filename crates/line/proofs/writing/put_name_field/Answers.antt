-- `line::writing::put_name_field` meets its contract: the name, and the comma after it, are put one after the other.
use Rattle.text.proofs.Writes.{put_two}
use Rattle.line.specs.Writing.{name_field}
use Rattle.line.proofs.writing.put_name_field.Goals as goal

pub returns : goal.returns
unfolding name_field
returns c = put_two _ _ _ _ c.put_bytes-comma.ensures c.put_comma.ensures c.requires
