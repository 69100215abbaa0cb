-- `run::chunk::shift` meets its contract: what the library copies to the front is written there.
use Rattle.std.proofs.Common.{◌≡◌, ℕ, ◌+◌, ◌-◌, ◌≤◌, List, length, take, drop, ◌∙◌, zero-add, arith, length-drop, length-take-le}
use Rattle.std.specs.List.{copy_within}
use Rattle.text.specs.Put.{written}
use Rattle.text.proofs.Writes.{written_first}
use Rattle.run.proofs.chunk.shift.Goals as goal

moved : (l : List ℕ) (at n : ℕ) → at + n ≤ length l → copy_within l at (at + n) 0 ≡ written l 0 (take n (drop at l))
moved l at n h =
    let k : (at + n) - at ≡ n = omega arith in
    let s : length (take n (drop at l)) ≡ n = length-take-le n (drop at l) (omega (arith, length-drop at l)) in
    rw (k, written_first l (take n (drop at l)) (omega (arith, length-drop at l)), s, zero-add)

pub returns : goal.returns
returns c = c.copy_within.ensures.after ∙ moved _ _ _ c.requires
