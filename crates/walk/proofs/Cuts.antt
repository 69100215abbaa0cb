-- Laws of the first byte 10: with one, the lines are the one that it ends and those after it; with none there is no whole line.
use mathlib.Core.Path.{◌≡◌, sym, ap, ◌∙◌}
use mathlib.Core.Bool.{Bool, true, false, cond}
use mathlib.Core.List.{List, [], ◌∷◌, map}
use Prim.Native.Nat.{ℕ, suc, ◌+◌, ◌-◌, ◌≤◌, ◌<◌}
use native.Mathlib.Omega.{arith}
use lib.Dec.{eqb}
use lib.ListN.{length, get_or, take, drop, length-append}
use lib.Seq.{length-take-le, take-length}
use borrow.Author.Tests.{eq-eqb, ne_eqb}
use Rattle.text.specs.Bytes.{to_byte}
use Rattle.text.specs.Pieces.{pieces, ended, unended, closed}
use Rattle.text.proofs.Pieces.{pieces_cut, pieces_one, pieces_some, ended_cons, unended_cons}
use Rattle.walk.specs.Lines.{line_text, whole_lines, rest_of, used_up}

-- ---- the text of a line

front_step : (t : Bool) (p : List ℕ) → let q = cond t (take (length p - 1) p) p in (length q ≤ length p) × (q ≡ take (length q) p)
front_step true p =
    let e : length (take (length p - 1) p) ≡ length p - 1 = length-take-le (length p - 1) p (omega arith) in
    (omega arith, rw e)
front_step false p = (omega arith, sym (take-length p))

-- it is a front of the piece
pub text_front : (p : List ℕ) → (length (line_text p) ≤ length p) × (line_text p ≡ take (length (line_text p)) p)
unfolding line_text
text_front p = front_step (eqb (get_or p (length p - 1) 0) 13) p

-- it lacks the byte 13 at the piece's end, and else nothing
pub text_cr : (p : List ℕ) → get_or p (length p - 1) 0 ≡ 13 → length p - 1 ≡ length (line_text p)
unfolding line_text
text_cr p e = rw (eq-eqb _ _ e) (sym (length-take-le (length p - 1) p (omega arith)))

pub text_plain : (p : List ℕ) → (get_or p (length p - 1) 0 ≡ 13 → ⊥) → length p ≡ length (line_text p)
unfolding line_text
text_plain p h = rw (ne_eqb _ _ h)

-- so at most one byte
pub text_nearly : (p : List ℕ) → length p ≤ length (line_text p) + 1
unfolding line_text
text_nearly p = by_test (eqb (get_or p (length p - 1) 0) 13)
  where
    by_test : (b : Bool) → length p ≤ length (cond b (take (length p - 1) p) p) + 1
    by_test true = omega (arith, length-take-le (length p - 1) p (omega arith))
    by_test false = omega arith

-- ---- with a byte 10

module _ (s : List ℕ) (h : to_byte 10 s < length s) where
  abbrev later : List (List ℕ)
  later = pieces 10 (drop (suc (to_byte 10 s)) s)

  cut_ended : ended (pieces 10 s) ≡ take (to_byte 10 s) s ∷ ended later
  cut_ended = ap ended (pieces_cut 10 s h) ∙ ended_cons (take (to_byte 10 s) s) later (pieces_some 10 (drop (suc (to_byte 10 s)) s))

  pub cut_whole : whole_lines s ≡ line_text (take (to_byte 10 s) s) ∷ whole_lines (drop (suc (to_byte 10 s)) s)
  unfolding whole_lines
  cut_whole = ap (map line_text) cut_ended

  pub cut_rest : rest_of s ≡ rest_of (drop (suc (to_byte 10 s)) s)
  unfolding rest_of
  cut_rest = ap unended (pieces_cut 10 s h) ∙ unended_cons (take (to_byte 10 s) s) later (pieces_some 10 (drop (suc (to_byte 10 s)) s))

  pub cut_used : used_up s ≡ suc (to_byte 10 s) + used_up (drop (suc (to_byte 10 s)) s)
  unfolding used_up closed
  cut_used = rw (cut_ended, length-append, length-take-le (to_byte 10 s) s (omega arith)) (omega arith)

-- ---- with none

module _ (s : List ℕ) (h : length s ≤ to_byte 10 s) where
  pub none_whole : whole_lines s ≡ []
  unfolding whole_lines ended
  none_whole = rw (pieces_one 10 s h)

  pub none_rest : rest_of s ≡ s
  unfolding rest_of unended
  none_rest = rw (pieces_one 10 s h)

  pub none_used : used_up s ≡ 0
  unfolding used_up ended closed
  none_used = rw (pieces_one 10 s h)
