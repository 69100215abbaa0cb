-- Tests, and what they say when they pass or fail.
use mathlib.Core.Path.{◌≡◌, refl}
use mathlib.Core.Bool.{Bool, true, false, ◌&&◌, ◌||◌}
use Prim.Native.Nat.{ℕ, zero, suc}
use lib.Dec.{eqb}
use borrow.Author.Tests.{eqb-true, eq-eqb}
use Rattle.text.specs.Bytes.{same_bytes}
use Rattle.text.proofs.Bools.{and_l, and_r}
pub use Rattle.text.proofs.Bools.{clash}
use Rattle.text.proofs.Words.{same_eq, same_refl}
use Rattle.rules.specs.Lists.{if_zero}
use Rattle.rules.specs.Event.{Instance, same_instance}

pub both : (a b : Bool) → a && b ≡ true → (a ≡ true) × (b ≡ true)
both a b e = (and_l a b e, and_r a b e)

pub and_true : (a b : Bool) → a ≡ true → b ≡ true → a && b ≡ true
and_true a b p q = rw (p, q)

pub neither : (a b : Bool) → a || b ≡ false → (a ≡ false) × (b ≡ false)
neither true b q = (q, cc)
neither false b q = (refl, q)

-- the second arm of a number that is not 0
pub if_some : {A : Type 0} (n : ℕ) (x y : A) → (n ≡ 0 → ⊥) → if_zero n x y ≡ y
if_some zero x y h = absurd (h refl)
if_some (suc n) x y h = refl

pub instance_true : (x y : Instance) → same_instance x y ≡ true → x ≡ y
instance_true x y e =
    let h = both (eqb x.kind y.kind) _ e in
    let g = both (same_bytes x.name y.name) _ h.1 in
    λ i. record { kind = eqb-true x.kind y.kind h.0 i; name = same_eq x.name y.name g.0 i; number = eqb-true x.number y.number g.1 i }

pub instance_refl : (x : Instance) → same_instance x x ≡ true
instance_refl x = rw (eq-eqb x.kind x.kind refl, same_refl x.name, eq-eqb x.number x.number refl)
