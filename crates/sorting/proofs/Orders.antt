-- Names are in one order: either way round, only equal names are the same, and less than less is less. These are std's laws of the order of two lists.
use mathlib.Core.Path.{◌≡◌}
use Rattle.std.specs.declared.cmp.Ordering.TheVariants.{Less, Equal}
use Rattle.std.specs.Ordering.{ordering_reverse}
use Rattle.std.proofs.lemmas.Cmp.{nat_list_cmp_total, tied_itself}
use Rattle.std.specs.FinMap.{slice_cmp-IsAntisymmetric, nat_cmp-IsAntisymmetric}
use Rattle.sorting.specs.Order.{Name, order}

pub order_turned : (s t : Name) → order t s ≡ ordering_reverse (order s t)
unfolding order
order_turned s t = nat_list_cmp_total.antisymm t s

pub order_self : (s : Name) → order s s ≡ Equal
unfolding order
order_self = tied_itself nat_list_cmp_total

pub order_same : (s t : Name) → order s t ≡ Equal → s ≡ t
unfolding order
order_same = slice_cmp-IsAntisymmetric nat_cmp-IsAntisymmetric

pub order_less : (s t u : Name) → order s t ≡ Less → order t u ≡ Less → order s u ≡ Less
unfolding order
order_less = nat_list_cmp_total.trans
