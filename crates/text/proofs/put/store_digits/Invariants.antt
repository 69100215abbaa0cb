-- `text::put::store_digits` meets its contract. The invariant: the digits of `v` go before and at `p`, and with them the output
-- is what it has to be.
use Rattle.std.proofs.Common.{◌≡◌, ◌+◌, ◌≤◌, length}
use Rattle.text.specs.Number.{digits_of}
use Rattle.text.specs.Put.{written}
use Rattle.text.proofs.put.store_digits.Given as goal

abbrev pub invariant-loop-v : goal.invariant-loop-v
invariant-loop-v l = (l.p + 1 ≡ l.at + length (digits_of l.v)) × (l.p + 1 ≤ l.end) × (length l.out ≡ length l.initial.out) × (written l.out l.at (digits_of l.v) ≡ written l.initial.out l.at (digits_of l.x))

abbrev pub decreases-loop-v : goal.decreases-loop-v
decreases-loop-v l = l.v
