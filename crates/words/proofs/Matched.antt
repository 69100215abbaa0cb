-- What a match on byte strings tells: bytes of another length, or with another byte somewhere, are not the word.
use mathlib.Core.Path.{◌≡◌, refl}
use mathlib.Core.Bool.{Bool, true, false, ◌&&◌}
use mathlib.Core.List.{List, [], ◌∷◌}
use Prim.Native.Nat.{ℕ, suc}
use lib.Dec.{eqb}
use lib.ListN.{length, get_or}
use Rattle.std.proofs.Math.Dec.{eqb-suc-zero, eqb-zero-suc, eqb-suc-suc}
use Rattle.text.specs.Bytes.{same_bytes}

-- the bytes of w from s's byte at i on
abbrev pub reads : List ℕ → ℕ → List ℕ → Bool
reads s i [] = true
reads s i (b ∷ w) = eqb (get_or s i 0) b && reads s (suc i) w

later : (x : ℕ) (s w : List ℕ) (i : ℕ) → reads (x ∷ s) (suc i) w ≡ reads s i w
later x s [] i = refl
later x s (b ∷ w) i = rw (later x s w (suc i))

swap : (a b c : Bool) → (a && (b && c)) ≡ (b && (a && c))
swap true b c = refl
swap false true c = refl
swap false false c = refl

pub read_bytes : (s w : List ℕ) → same_bytes s w ≡ (eqb (length s) (length w) && reads s 0 w)
unfolding same_bytes
read_bytes [] [] = refl
read_bytes [] (y ∷ w) = rw (eqb-zero-suc (length w))
read_bytes (x ∷ s) [] = rw (eqb-suc-zero (length s))
read_bytes (x ∷ s) (y ∷ w) =
    rw (eqb-suc-suc (length s) (length w), read_bytes s w, later x s w 0) (swap (eqb x y) (eqb (length s) (length w)) (reads s 0 w))
