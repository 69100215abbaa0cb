-- How a chain of words is answered: each word's answer stands in the place of the one before it.
use mathlib.Core.Path.{◌≡◌, ap, ◌∙◌}
use mathlib.Core.Bool.{Bool}
use Rattle.words.specs.Named.{pick}

pub step : {A : Type 0} (b : Bool) (e : A) {r x y : A} → r ≡ pick b e x → x ≡ y → r ≡ pick b e y
step b e p q = p ∙ ap (pick b e) q
