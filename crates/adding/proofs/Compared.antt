-- What the comparison of two lent names tells of the names that they are.
use mathlib.Core.Path.{◌≡◌}
use Rattle.std.specs.declared.cmp.Ordering.{Ordering}
use Rattle.sorting.specs.Order.{Name, order}

module _ {o : Ordering} {s t n m : Name} (e : o ≡ order s t) (f : s ≡ n) (g : t ≡ m) where
  pub compared : o ≡ order n m
  compared = cc
