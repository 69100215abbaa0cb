-- The lines of a text by the places where they begin: each of them, several in a row, and that nothing stands after the last.
use mathlib.Core.Path.{◌≡◌, refl, sym, ap, ◌∙◌}
use mathlib.Core.Bool.{true}
use mathlib.Core.List.{List, [], ◌∷◌, ◌++◌, map}
use Prim.Native.Nat.{ℕ, zero, suc, ◌+◌, ◌≤◌, ◌<◌}
use native.Mathlib.Omega.{arith}
use lib.ListN.{length, get_or, take, drop, length-map}
use lib.Seq.{length-take-le, drop_at}
use Rattle.text.specs.Pieces.{pieces, ended, unended}
use Rattle.text.specs.Lists.{is_empty}
use Rattle.text.proofs.Bools.{and_l}
use Rattle.text.proofs.Pieces.{pieces_some}
use Rattle.paper.specs.Lines.{line_from}
use Rattle.adding.specs.PlaceCode.{few_lines, Placed}

-- ---- things at the front of others, each made of an entry

module _ (f : ℕ → List ℕ) where
  made_front : (starts : List ℕ) (n a : ℕ) (rest : List (List ℕ)) → a ≤ n → n ≤ length starts → take a (map f (take n starts) ++ rest) ≡ map f (take a starts)
  made_front starts n zero rest h k = refl
  made_front [] n (suc a) rest h k = absurd (omega arith)
  made_front (s ∷ starts) zero (suc a) rest h k = absurd (omega arith)
  made_front (s ∷ starts) (suc n) (suc a) rest h k = ap (λ l. f s ∷ l) (made_front starts n a rest (omega arith) (omega arith))

  made_part : (starts : List ℕ) (n b a : ℕ) (rest : List (List ℕ)) → b + a ≤ n → n ≤ length starts →
      take a (drop b (map f (take n starts) ++ rest)) ≡ map f (take a (drop b starts))
  made_part starts n zero a rest h k = made_front starts n a rest (omega arith) k
  made_part [] n (suc b) a rest h k = absurd (omega arith)
  made_part (s ∷ starts) zero (suc b) a rest h k = absurd (omega arith)
  made_part (s ∷ starts) (suc n) (suc b) a rest h k = made_part starts n b a rest (omega arith) (omega arith)

  made_one : (starts : List ℕ) (n i : ℕ) (rest : List (List ℕ)) → i < n → n ≤ length starts → get_or (map f (take n starts) ++ rest) i [] ≡ f (get_or starts i 0)
  made_one [] n i rest h k = absurd (omega arith)
  made_one (s ∷ starts) zero i rest h k = absurd (omega arith)
  made_one (s ∷ starts) (suc n) zero rest h k = refl
  made_one (s ∷ starts) (suc n) (suc i) rest h k = made_one starts n i rest (omega arith) (omega arith)

-- ---- pieces are those that an end of line ends, and the last

split_last : (ps : List (List ℕ)) → 1 ≤ length ps → ps ≡ ended ps ++ unended ps ∷ []
unfolding ended unended
split_last [] h = absurd (omega arith)
split_last (p ∷ []) h = refl
split_last (p ∷ q ∷ ps) h = ap (λ l. p ∷ l) (split_last (q ∷ ps) (omega arith))

empty : (s : List ℕ) → is_empty s ≡ true → s ≡ []
empty [] e = refl
empty (x ∷ s) e = cc

module _ {text starts : List ℕ} {n : ℕ} (p : Placed text starts n) where
  fits : n ≤ length starts
  fits = omega (arith, p.sized, p.count)

  last_empty : unended (pieces 10 text) ≡ []
  unfolding few_lines
  last_empty = empty (unended (pieces 10 text)) (and_l (is_empty (unended (pieces 10 text))) _ p.few)

  pieces_are : pieces 10 text ≡ map (line_from text) (take n starts) ++ [] ∷ []
  pieces_are = split_last (pieces 10 text) (pieces_some 10 text) ∙ rw (last_empty, p.lines)

  made_count : length (map (line_from text) (take n starts)) ≡ n
  made_count = length-map (take n starts) (line_from text) ∙ length-take-le n starts fits

  pub line_count : length (ended (pieces 10 text)) ≡ n
  line_count = ap length (sym p.lines) ∙ made_count

  pub line_is : (i : ℕ) → i < n → get_or (pieces 10 text) i [] ≡ line_from text (get_or starts i 0)
  line_is i h = ap (λ ps. get_or ps i []) pieces_are ∙ made_one (line_from text) starts n i ([] ∷ []) h fits

  pub part_is : (b a : ℕ) → b + a ≤ n → map (line_from text) (take a (drop b starts)) ≡ take a (drop b (pieces 10 text))
  part_is b a h = sym (ap (λ ps. take a (drop b ps)) pieces_are ∙ made_part (line_from text) starts n b a ([] ∷ []) h fits)

  pub end_is : drop n (pieces 10 text) ≡ [] ∷ []
  end_is = ap (λ ps. drop n ps) pieces_are ∙ drop_at (map (line_from text) (take n starts)) ([] ∷ []) n made_count
