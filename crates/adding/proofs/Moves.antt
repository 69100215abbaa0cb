-- Entries that move up by one, which makes a place.
use mathlib.Core.Path.{◌≡◌, sym, ap, ◌∙◌}
use mathlib.Core.List.{List, ◌∷◌, ◌++◌, append_assoc}
use Prim.Native.Nat.{ℕ, suc, ◌+◌, ◌-◌, ◌≤◌, ◌<◌}
use native.Mathlib.Numerals.{add-one}
use native.Mathlib.Omega.{arith}
use lib.ListN.{length, take, drop, set, length-append, length-take, length-drop}
use lib.Seq.{length-take-le, take-take, take-append_seam, drop-append_seam, set_split}
use Rattle.std.specs.List.{copy_within}
use Rattle.std.proofs.lemmas.List.{take-append-le, drop-take}

module _ (d : List ℕ) (n k p : ℕ) (h : k ≤ n) (room : n < length d) where
  abbrev front : List ℕ
  front = take (suc k) d

  abbrev moved : List ℕ
  moved = take (n - k) (drop k d)

  abbrev rest : List ℕ
  rest = drop (suc k + (n - k)) d

  long : length front ≡ suc k
  long = length-take-le (suc k) d (omega arith)

  before : take k (front ++ (moved ++ rest)) ≡ take k d
  before = take-append-le k front (moved ++ rest) (omega (arith, long)) ∙ take-take k (suc k) d (omega arith)

  behind : drop (suc k) (front ++ (moved ++ rest)) ≡ moved ++ rest
  behind = ap (λ j. drop j (front ++ (moved ++ rest))) (sym long) ∙ drop-append_seam front (moved ++ rest)

  counted : length (take k d ++ p ∷ moved) ≡ n + 1
  counted = simp (length-append, length-take, length-drop) (omega arith)

  moved_is : moved ≡ drop k (take n d)
  moved_is = let e : k + (n - k) ≡ n = omega arith in sym (ap (λ j. drop k (take j d)) (sym e) ∙ drop-take k (n - k) d)

  pub moved_put : {l : List ℕ} → l ≡ copy_within d k n (k + 1) → take (n + 1) (set l k p) ≡ take k d ++ p ∷ drop k (take n d)
  moved_put {l} e =
      ap (λ m. take (n + 1) (set m k p)) (rw add-one at e ∙ append_assoc front moved rest)
      ∙ ap (take (n + 1)) (set_split (front ++ (moved ++ rest)) k p (simp length-append (omega (arith, long))) ∙ rw (before, behind))
      ∙ ap (take (n + 1)) (sym (append_assoc (take k d) (p ∷ moved) rest))
      ∙ ap (λ j. take j ((take k d ++ p ∷ moved) ++ rest)) (sym counted)
      ∙ take-append_seam (take k d ++ p ∷ moved) rest
      ∙ ap (λ m. take k d ++ p ∷ m) moved_is
