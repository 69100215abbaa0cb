-- Laws of chunks: a chunk is what its whole lines take and its rest, and the lines of two chunks are the whole lines of the first and those
-- of the second with that rest before it.
use mathlib.Core.Path.{◌≡◌, refl, sym, ap, ◌∙◌}
use mathlib.Core.Bool.{true}
use mathlib.Core.List.{List, [], ◌∷◌, ◌++◌, map, append_assoc}
use Prim.Native.Nat.{ℕ, ◌+◌}
use native.Mathlib.Omega.{arith}
use lib.ListN.{length, take, drop, length-append, take-append-drop}
use lib.Seq.{drop-append_seam}
use Rattle.text.specs.Pieces.{pieces, ended, unended, closed}
use Rattle.text.proofs.Pieces.{without, pieces_join, unended_clean, closed_unended, ended_halves, unended_halves}
use Rattle.walk.specs.Lines.{line_text, whole_lines, rest_of, used_up, lines_of}

-- ---- a chunk is what is used up and the rest

pub size : (s : List ℕ) → length s ≡ used_up s + length (rest_of s)
unfolding used_up rest_of
size s = ap length (closed_unended 10 s) ∙ length-append (closed 10 (ended (pieces 10 s))) (unended (pieces 10 s))

pub rest_drop : (s : List ℕ) → rest_of s ≡ drop (used_up s) s
unfolding used_up rest_of
rest_drop s =
    let c = closed 10 (ended (pieces 10 s)) in
    let u = unended (pieces 10 s) in
    sym (ap (drop (length c)) (closed_unended 10 s) ∙ drop-append_seam c u)

pub front_rest : (s : List ℕ) → s ≡ take (used_up s) s ++ rest_of s
front_rest s = rw rest_drop (sym (take-append-drop (used_up s) s))

-- ---- two chunks: an unfinished line goes on in the second

map_append : (ps qs : List (List ℕ)) → map line_text (ps ++ qs) ≡ map line_text ps ++ map line_text qs
map_append [] qs = refl
map_append (p ∷ ps) qs = ap (λ (t : List (List ℕ)). line_text p ∷ t) (map_append ps qs)

closed_append : (ps qs : List (List ℕ)) → length (closed 10 (ps ++ qs)) ≡ length (closed 10 ps) + length (closed 10 qs)
unfolding closed
closed_append [] qs = omega arith
closed_append (p ∷ ps) qs = simp length-append (omega (arith, closed_append ps qs))

module _ (a b : List ℕ) where
  abbrev first : List (List ℕ)
  first = ended (pieces 10 a)

  abbrev second : List (List ℕ)
  second = ended (pieces 10 (unended (pieces 10 a) ++ b))

  pub whole_halves : whole_lines (a ++ b) ≡ whole_lines a ++ whole_lines (rest_of a ++ b)
  unfolding whole_lines rest_of
  whole_halves = ap (map line_text) (ended_halves 10 a b) ∙ map_append first second

  pub rest_halves : rest_of (a ++ b) ≡ rest_of (rest_of a ++ b)
  unfolding rest_of
  rest_halves = unended_halves 10 a b

  pub used_halves : used_up (a ++ b) ≡ used_up a + used_up (rest_of a ++ b)
  unfolding used_up rest_of
  used_halves = ap (λ (ps : List (List ℕ)). length (closed 10 ps)) (ended_halves 10 a b) ∙ closed_append first second

  pub lines_halves : lines_of (a ++ b) ≡ whole_lines a ++ lines_of (rest_of a ++ b)
  unfolding lines_of
  lines_halves = rw (whole_halves, rest_halves, append_assoc)

-- the rest has no byte 10, and after one there is none
pub rest_clean : (s : List ℕ) → without 10 (rest_of s) ≡ true
unfolding rest_of
rest_clean s = unended_clean 10 s

pub rest_ended : (s : List ℕ) → rest_of (s ++ 10 ∷ []) ≡ []
unfolding rest_of unended pieces
rest_ended s = rest_halves s (10 ∷ []) ∙ ap unended (pieces_join 10 (rest_of s) [] (rest_clean s))

-- so the second begins anew
module _ (a b : List ℕ) (e : rest_of a ≡ []) where
  pub whole_anew : whole_lines (a ++ b) ≡ whole_lines a ++ whole_lines b
  whole_anew = rw e at (whole_halves a b)

  pub lines_anew : lines_of (a ++ b) ≡ whole_lines a ++ lines_of b
  lines_anew = rw e at (lines_halves a b)
