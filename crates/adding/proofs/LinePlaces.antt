-- The places of a text's lines, as the code walks from one to the next: those stored, and the lines from the index `at` on.
use mathlib.Core.Path.{◌≡◌, refl, sym, ap, ◌∙◌}
use mathlib.Core.Bool.{Bool, true, false, ◌&&◌}
use mathlib.Core.List.{List, [], ◌∷◌, ◌++◌, map, append-nil, append_assoc, map-append}
use Prim.Native.Nat.{ℕ, suc, ◌+◌, ◌≤◌, ◌<◌}
use native.Mathlib.Numerals.{add-one}
use native.Mathlib.Omega.{arith}
use lib.Dec.{leb}
use lib.ListN.{length, take, drop, set, length-drop, length-set, length-append, length-map, drop_of_length-le}
use lib.Seq.{take-suc-set, length-take-le}
use borrow.Author.Tests.{le-leb, lt-leb}
use Rattle.text.specs.Bytes.{find_from}
use Rattle.text.specs.Pieces.{pieces, ended, unended}
use Rattle.text.specs.Lists.{is_empty}
use Rattle.text.proofs.Pieces.{pieces_cut, pieces_one, pieces_some, ended_cons, unended_cons}
use Rattle.text.proofs.PiecesFrom.{after_found}
use Rattle.paper.specs.Lines.{line_from}
use Rattle.adding.specs.PlaceCode.{lines_most, few_lines, Placed}

pub record Placing (text starts : List ℕ) (at n : ℕ) : Type 0 where
  pub here : at ≤ length text
  pub sized : length starts ≡ lines_most
  pub room : n ≤ lines_most
  pub last : unended (pieces 10 text) ≡ unended (pieces 10 (drop at text))
  pub done : ended (pieces 10 text) ≡ map (line_from text) (take n starts) ++ ended (pieces 10 (drop at text))

few_is : (text u : List ℕ) (n : ℕ) → unended (pieces 10 text) ≡ u → length (ended (pieces 10 text)) ≡ n → few_lines text ≡ is_empty u && leb n lines_most
unfolding few_lines
few_is text u n p q = rw (p, q)

not_empty : (s : List ℕ) (t : Bool) → 1 ≤ length s → is_empty s && t ≡ false
not_empty [] t h = absurd (omega arith)
not_empty (x ∷ s) t h = refl

too_many : (a : Bool) (n : ℕ) → lines_most < n → a && leb n lines_most ≡ false
too_many false n h = refl
too_many true n h = lt-leb n lines_most h

module _ (text starts : List ℕ) (at n : ℕ) (k : Placing text starts at n) where
  -- the lines stored are n
  stored : length (ended (pieces 10 text)) ≡ n + length (ended (pieces 10 (drop at text)))
  stored =
      ap length k.done ∙ length-append (map (line_from text) (take n starts)) (ended (pieces 10 (drop at text)))
      ∙ ap (λ m. m + length (ended (pieces 10 (drop at text)))) (length-map (take n starts) (line_from text) ∙ length-take-le n starts (omega (arith, k.sized, k.room)))

  -- no end of line is left
  module _ (h : length text ≤ find_from 10 text at) where
    rest_is : pieces 10 (drop at text) ≡ drop at text ∷ []
    unfolding find_from
    rest_is = pieces_one 10 (drop at text) (omega (arith, length-drop at text))

    pub placing_open : at < length text → few_lines text ≡ false
    unfolding unended
    placing_open g =
        few_is text (drop at text) (length (ended (pieces 10 text))) (k.last ∙ ap unended rest_is) refl
        ∙ not_empty (drop at text) _ (omega (arith, length-drop at text))

  -- one more line is left
  module _ (h : find_from 10 text at < length text) where
    left_is : pieces 10 (drop at text) ≡ line_from text at ∷ pieces 10 (drop (suc (find_from 10 text at)) text)
    unfolding find_from line_from
    left_is = rw (← (after_found 10 text at)) (pieces_cut 10 (drop at text) (omega (arith, length-drop at text)))

    ended_is : ended (pieces 10 (drop at text)) ≡ line_from text at ∷ ended (pieces 10 (drop (suc (find_from 10 text at)) text))
    ended_is = ap ended left_is ∙ ended_cons (line_from text at) (pieces 10 (drop (suc (find_from 10 text at)) text)) (pieces_some 10 (drop (suc (find_from 10 text at)) text))

    unended_is : unended (pieces 10 (drop at text)) ≡ unended (pieces 10 (drop (suc (find_from 10 text at)) text))
    unended_is = ap unended left_is ∙ unended_cons (line_from text at) (pieces 10 (drop (suc (find_from 10 text at)) text)) (pieces_some 10 (drop (suc (find_from 10 text at)) text))

    pub placing_full : n ≡ lines_most → few_lines text ≡ false
    placing_full g =
        few_is text (unended (pieces 10 text)) (length (ended (pieces 10 text))) refl refl
        ∙ too_many (is_empty (unended (pieces 10 text))) (length (ended (pieces 10 text))) (omega (arith, stored, ap length ended_is))

    pub placing_turn : n < lines_most → Placing text (set starts n at) (find_from 10 text at + 1) (n + 1)
    placing_turn g =
        let u : take (n + 1) (set starts n at) ≡ take n starts ++ at ∷ [] = rw add-one (take-suc-set starts n at (omega (arith, k.sized))) in
        record {
          here = omega arith;
          sized = length-set starts n at ∙ k.sized;
          room = omega arith;
          last = rw add-one (k.last ∙ unended_is);
          done =
              rw (u, map-append (line_from text) (take n starts) (at ∷ []), append_assoc, add-one)
              (k.done ∙ ap (λ w. map (line_from text) (take n starts) ++ w) ended_is);
        }

  -- the whole text is walked
  module _ (h : length text ≤ at) where
    done_is : ended (pieces 10 text) ≡ map (line_from text) (take n starts)
    unfolding pieces ended
    done_is = rw (drop_of_length-le text h, append-nil) at k.done

    few_end : few_lines text ≡ leb n lines_most
    unfolding pieces unended ended
    few_end = few_is text [] n (rw (drop_of_length-le text h) at k.last) (rw (drop_of_length-le text h) at stored ∙ omega arith)

pub placing_end : (text starts : List ℕ) (at n : ℕ) → Placing text starts at n → length text ≤ at → Placed text starts n
placing_end text starts at n k h = record {
  few = few_end text starts at n k h ∙ le-leb n lines_most k.room;
  sized = k.sized;
  count = k.room;
  lines = sym (done_is text starts at n k h);
}
