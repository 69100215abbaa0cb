-- `text::name::name_bytes` meets its contract. The invariant: every byte before `i` may stand in a name.
use Rattle.std.proofs.Common.{◌≡◌, ◌-◌, ◌≤◌, true, length, take}
use Rattle.text.specs.Name.{all_name_bytes}
use Rattle.text.proofs.name.name_bytes.Given as goal

abbrev pub invariant-loop-i : goal.invariant-loop-i
invariant-loop-i l = (l.i ≤ length l.s) × (all_name_bytes (take l.i l.s) ≡ true)

abbrev pub decreases-loop-i : goal.decreases-loop-i
decreases-loop-i l = length l.s - l.i
