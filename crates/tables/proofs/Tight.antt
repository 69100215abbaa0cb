-- How tight the contracts of the lent tables are: no second answer, and wrong answers that they shut out.
use mathlib.Core.Path.{◌≡◌, refl}
use mathlib.Core.Bool.{Bool, true, not, ◌&&◌}
use mathlib.Core.List.{List, []}
use Prim.Native.Nat.{ℕ}
use lib.Dec.{eqb}
use lib.ListN.{length, get_or, replicate, length-replicate}
use Rattle.text.proofs.Tight.{unique, ShutsOut, shut_out}
use Rattle.tables.specs.Entry.{names_size, nums_size, ticks_size}
use Rattle.tables.specs.Sized.{is_sized}
use Rattle.tables.specs.Fresh.{Cleared, cleared, cleared_of}
use Rattle.tables.proofs.Sizes.{sizes_mean}

pub sized_unique : (names nums ticks : ℕ) (x y : Bool) → x ≡ is_sized names nums ticks → y ≡ is_sized names nums ticks → x ≡ y
sized_unique names nums = unique (is_sized names nums)

-- each table has a size of its own
pub sized_not_alike : ShutsOut {A = ℕ × ℕ × ℕ} (λ (names, nums, ticks). is_sized names nums ticks) (λ (names, nums, ticks). eqb names nums && eqb nums ticks)
unfolding is_sized
sized_not_alike = shut_out not (0, 0, 0) refl refl

-- ---- `fresh`

pub fresh_unique : (names nums ticks : List ℕ) (x y : Cleared) → x ≡ cleared_of names nums ticks → y ≡ cleared_of names nums ticks → x ≡ y
fresh_unique names nums = unique (cleared_of names nums)

abbrev Three : Type 0
Three = List ℕ × List ℕ × List ℕ

abbrev clears : Three → Cleared
clears (names, nums, ticks) = cleared_of names nums ticks

-- it says 0 and leaves the tables; they held ones
abbrev held : Three
held = (replicate names_size 1, replicate nums_size 1, replicate ticks_size 1)

held_sized : is_sized (length held.0) (length held.1) (length held.2) ≡ true
held_sized =
    (sizes_mean held.0 held.1 held.2
    ).shows
    (record { names_sized = length-replicate {A = ℕ} names_size 1; nums_sized = length-replicate {A = ℕ} nums_size 1; ticks_sized = length-replicate {A = ℕ} ticks_size 1 })

pub clear_not_idle : ShutsOut clears (λ (names, nums, ticks). cleared 0 names nums ticks)
unfolding cleared_of
clear_not_idle = shut_out (λ c. eqb (get_or c.names 0 0) 0) held (rw held_sized) refl

-- it zeroes tables of any size
pub clear_not_any_size :
    ShutsOut clears (λ (names, nums, ticks). cleared 0 (replicate (length names) 0) (replicate (length nums) 0) (replicate (length ticks) 0))
unfolding cleared_of is_sized
clear_not_any_size = shut_out (λ c. eqb c.answer 15) ([], [], []) refl refl
