-- `text::name::name_byte` meets its contract: its tests are the definition's.
use Rattle.std.proofs.Common.{refl}
use Rattle.text.specs.Name.{is_name_byte}
use Rattle.text.proofs.name.name_byte.Goals as goal

pub returns : goal.returns
unfolding is_name_byte
returns c = refl
