-- The line of a refusal, put; and what is written is there.
use mathlib.Core.Path.{◌≡◌}
use mathlib.Core.Logic.{inl, inr}
use mathlib.Core.List.{List, [], ◌∷◌, ◌++◌}
use Prim.Native.Nat.{ℕ, ◌-◌, ◌≤◌, ◌<◌}
use native.Mathlib.Omega.{arith}
use lib.ListN.{length, length-append}
use Rattle.text.specs.Literal.{bytes}
use Rattle.text.specs.Number.{digits_of}
use Rattle.text.specs.Put.{after, put}
use Rattle.text.proofs.Digits.{digits_short}
use Rattle.text.proofs.Writes.{put_front, put_then}
use Rattle.ledger.specs.Totals.{IsRefusal}
use Rattle.add.specs.Line.{refused_line, line_most, IsRefused, IsAnswer}

pub answer_fits : (n : ℕ) (s : List ℕ) → IsAnswer n s → n ≤ length s
answer_fits n s (inl w) = w.fits
answer_fits n s (inr w) = w.fits

module _ (x : ℕ) (h : x < 18446744073709551616) where
  line_short : length (refused_line x) ≤ line_most
  unfolding refused_line
  line_short = simp length-append (omega (arith, digits_short x h))

  pub put_line : {a b r : ℕ} {m1 m2 m3 : List ℕ} (l : List ℕ) → after a m1 ≡ put l 0 (bytes "refused ") → after b m2 ≡ put m1 a (digits_of x) → after r m3 ≡ put m2 b (10 ∷ [])
      → line_most ≤ length l → after r m3 ≡ put l 0 (refused_line x)
  unfolding refused_line
  put_line l p q s room =
      put_then l 0 (bytes "refused " ++ digits_of x) (10 ∷ []) (put_then l 0 (bytes "refused ") (digits_of x) (λ i. p) q) s (omega (arith, line_short))

  pub line_is : {r : ℕ} {m : List ℕ} (l : List ℕ) → line_most ≤ length l → after r m ≡ put l 0 (refused_line x) → IsRefusal x → IsRefused r m
  line_is {r} {m} l room p w =
      let f = put_front l (refused_line x) p (omega (arith, line_short)) in
      let z : r - 0 ≡ r = omega arith in
      record { number = x; refuses = w; line = rw z at f.0; fits = f.1 }
