-- `text::name::all_named` meets its contract. The invariant: the answer so far is whether every byte that was looked at may stand in a name.
use Rattle.std.proofs.Common.{◌≡◌, take}
use Rattle.text.specs.Name.{all_name_bytes}
use Rattle.text.proofs.name.all_named.Given as goal

abbrev pub invariant-loop-b : goal.invariant-loop-b
invariant-loop-b l = l.named ≡ all_name_bytes (take l.b-index l.s)
