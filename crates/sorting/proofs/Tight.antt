-- How tight the contract of comparing is: no second answer, and wrong answers that it shuts out.
use mathlib.Core.Path.{◌≡◌, refl}
use mathlib.Core.Bool.{cond}
use lib.Dec.{ltb}
use lib.ListN.{length}
use Rattle.text.specs.Literal.{bytes}
use Rattle.text.proofs.Tight.{unique, ShutsOut, shut_out}
use Rattle.std.specs.declared.cmp.Ordering.{Ordering}
use Rattle.std.specs.declared.cmp.Ordering.TheVariants.{Less}
use Rattle.std.specs.Ordering.{ordering_reverse}
use Rattle.sorting.specs.Order.{Name, order, is_less}

abbrev compares : Name × Name → Ordering
compares (s, t) = order s t

pub compare_unique : (s t : Name) (x y : Ordering) → x ≡ order s t → y ≡ order s t → x ≡ y
compare_unique s = unique (order s)

-- the shorter first, as names are told apart quickly (No. 3): `b` and `ab`
pub compare_not_by_length : ShutsOut compares (λ (s, t). cond (ltb (length s) (length t)) Less (order s t))
unfolding order
compare_not_by_length = shut_out (λ o. is_less (ordering_reverse o)) (bytes "b", bytes "ab") refl refl

-- the other way round
pub compare_not_turned : ShutsOut compares (λ (s, t). ordering_reverse (order s t))
unfolding order
compare_not_turned = shut_out is_less (bytes "a", bytes "b") refl refl
