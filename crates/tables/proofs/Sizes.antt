-- The test of the sizes means tables of the right sizes.
use mathlib.Core.Path.{◌≡◌}
use mathlib.Core.Bool.{true, false}
use mathlib.Core.List.{List}
use Prim.Native.Nat.{ℕ}
use lib.ListN.{length}
use Rattle.text.proofs.Bools.{is_false}
use Rattle.tables.specs.Entry.{names_size, nums_size, ticks_size}
use Rattle.tables.specs.Sized.{Sized, is_sized}
use Rattle.tables.proofs.Means.{Means, means_eq, means_and, means_as}

pub sizes_mean : (names nums ticks : List ℕ) → Means (is_sized (length names) (length nums) (length ticks)) (Sized names nums ticks)
unfolding is_sized
sizes_mean names nums ticks =
    means_as (means_and (means_eq (length names) names_size) (means_and (means_eq (length nums) nums_size) (means_eq (length ticks) ticks_size)))
    (λ p. record { names_sized = p.0; nums_sized = p.1.0; ticks_sized = p.1.1 })
    (λ s. (s.names_sized, (s.nums_sized, s.ticks_sized)))

-- the test of tables that have their sizes, and of others
pub is_right : {names nums ticks : List ℕ} → Sized names nums ticks → is_sized (length names) (length nums) (length ticks) ≡ true
is_right {names} {nums} {ticks} s = (sizes_mean names nums ticks).shows s

pub is_wrong : (names nums ticks : List ℕ) → (Sized names nums ticks → ⊥) → is_sized (length names) (length nums) (length ticks) ≡ false
is_wrong names nums ticks not_so = is_false _ (λ e. not_so ((sizes_mean names nums ticks).holds e))
