-- Bytes compared eight at a time from the back: what one step says, how the steps follow each other, and how they end at the front.
use mathlib.Core.Path.{◌≡◌, refl, sym, ap, ◌∙◌}
use mathlib.Core.Bool.{Bool, true, false, not, ◌||◌}
use mathlib.Core.List.{List}
use Prim.Native.Nat.{ℕ, ◌+◌, ◌-◌, ◌≤◌, ◌<◌}
use native.Mathlib.Omega.{arith}
use lib.Dec.{eqb}
use lib.ListN.{length, get_or, drop}
use lib.Seq.{drop-drop}
use borrow.Author.Tests.{eqb-true, eqb-false, not-true, not-false}
use Rattle.text.specs.Bytes.{same_bytes}
use Rattle.text.proofs.Bools.{or_l, or_r}
use Rattle.text.proofs.Words.{eq_same, other_byte, back_turn}

module _ (s t : List ℕ) where
  -- ---- eight bytes looked at together

  -- where two bytes differ, so do the lists
  pub eight_other : (i : ℕ) (differ : Bool) → (differ ≡ true → same_bytes s t ≡ false) → differ || not (eqb (get_or s i 0) (get_or t i 0)) ≡ true → same_bytes s t ≡ false
  eight_other i true so e = so refl
  eight_other i false so e = other_byte s t i (eqb-false _ _ (not-true _ e))

  -- where none does, the lists are the same from `at` on if they are after the last byte looked at
  pub eight_turn : (at k : ℕ) (differ : Bool) → at + k < length s → length s ≡ length t → (differ ≡ false → drop (at + k) s ≡ drop (at + k) t → drop at s ≡ drop at t)
      → differ || not (eqb (get_or s (at + k) 0) (get_or t (at + k) 0)) ≡ false → drop (at + (k + 1)) s ≡ drop (at + (k + 1)) t → drop at s ≡ drop at t
  eight_turn at k differ h l so e d =
      let n : (at + (k + 1)) - 1 ≡ at + k = omega arith in
      let b : get_or s (at + k) 0 ≡ get_or t (at + k) 0 = eqb-true _ _ (not-false _ (or_r differ _ e)) in
      so (or_l differ _ e) (rw n at (back_turn s t (at + (k + 1)) (omega arith) (omega arith) l (rw n b) d))

  -- ---- the front

  -- what is the same from an index on is the same from a later one on
  pub same_later : (i j : ℕ) → i ≤ j → drop i s ≡ drop i t → drop j s ≡ drop j t
  same_later i j h d =
      let n : i + (j - i) ≡ j = omega arith in
      rw n at (sym (drop-drop (j - i) i s) ∙ ap (drop (j - i)) d ∙ drop-drop (j - i) i t)

  -- the first eight bytes are compared last
  pub eight_end : (differ : Bool) → (differ ≡ true → same_bytes s t ≡ false) → (differ ≡ false → drop 0 s ≡ drop 0 t) → not differ ≡ same_bytes s t
  eight_end true other here = sym (other refl)
  eight_end false other here = sym (eq_same s t (here refl))
