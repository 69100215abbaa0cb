-- What is known of a text that is a number of at most max, and of one that is none.
use Rattle.std.proofs.Common.{None, Some}
use mathlib.Core.Path.{◌≡◌, refl}
use mathlib.Core.Bool.{Bool, true, false, ◌&&◌}
use mathlib.Core.List.{List}
use Prim.Native.Nat.{ℕ, ◌≤◌, ◌<◌}
use native.Mathlib.Omega.{arith}
use lib.Dec.{leb}
use borrow.Author.Tests.{leb-true, leb-false}
use Rattle.text.specs.Number.{is_number, value_from, number_if, number_of}
use Rattle.text.proofs.Bools.{and_l, and_r}

pub if_value : (t : Bool) (v h : ℕ) → number_if t v ≡ Some h → (t ≡ true) × (v ≡ h)
if_value true v h e = (refl, cc)
if_value false v h e = (cc, cc)

pub if_bad : (t : Bool) (v : ℕ) → number_if t v ≡ None → t ≡ false
if_bad true v e = cc
if_bad false v e = refl

pub record Told (s : List ℕ) (max v : ℕ) : Type 0 where
  pub number : is_number s ≡ true
  pub value : value_from 0 s ≡ v
  pub small : v ≤ max

pub value_if : (t : Bool) (w max v : ℕ) → number_if (t && leb w max) w ≡ Some v → (t ≡ true) × (w ≡ v) × (w ≤ max)
value_if t w max v e =
    let p = if_value (t && leb w max) w v e in
    (and_l t (leb w max) p.0, p.1, leb-true w max (and_r t (leb w max) p.0))

pub told : (s : List ℕ) (max v : ℕ) → number_of s max ≡ Some v → Told s max v
unfolding number_of
told s max v e =
    let w = value_if (is_number s) (value_from 0 s) max v e in
    record { number = w.0; value = w.1; small = omega (arith, w.1, w.2) }

-- none of at most max: a number is more
pub bad_if : (t u : Bool) (w : ℕ) → number_if (t && u) w ≡ None → t ≡ true → u ≡ false
bad_if t u w e i = rw i at (if_bad (t && u) w e)

pub untold : (s : List ℕ) (max : ℕ) → number_of s max ≡ None → is_number s ≡ true → max < value_from 0 s
unfolding number_of
untold s max e i = leb-false (value_from 0 s) max (bad_if (is_number s) (leb (value_from 0 s) max) (value_from 0 s) e i)
