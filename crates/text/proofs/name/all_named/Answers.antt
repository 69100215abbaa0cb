use Rattle.std.proofs.Common.{refl}
use Rattle.text.specs.Name.{all_name_bytes}
use Rattle.text.proofs.Names.{names_more}
use Rattle.text.proofs.name.all_named.Goals as goal

pub loop-b-init : goal.loop-b-init
unfolding all_name_bytes
loop-b-init c = refl

pub loop-b-preserved : goal.loop-b-preserved
loop-b-preserved c = rw (names_more _ c.loop-b.b-index c.loop-b-test.true, ← c.loop-b.invariant, ← c.name_byte-named.ensures)
