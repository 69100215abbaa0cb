-- The pieces from an index on, for a walk from one piece to the next: where the next begins, when there is none, and the piece that stands there.
use Rattle.std.proofs.Common.{◌≡◌, ℕ, suc, ◌+◌, ◌-◌, ◌<◌, ◌≤◌, List, [], length, get_or, take, drop, ◌∙◌, ⊎_elim, add-one, arith, length-drop, get_or-drop, take_all, drop-drop}
use Rattle.text.specs.Bytes.{to_byte, find_from}
use Rattle.text.specs.Pieces.{pieces}
use Rattle.text.proofs.Bools.{lt_or_ge}
use Rattle.text.proofs.Pieces.{pieces_cut, pieces_one}

-- the pieces after the first j of them are those of what stands from the index a on
abbrev pub From : ℕ → List ℕ → ℕ → ℕ → Type 0
From b l j a = drop j (pieces b l) ≡ pieces b (drop a l)

-- what stands after the parting byte that is found from an index on
pub after_found : (b : ℕ) (l : List ℕ) (a : ℕ) → drop (suc (to_byte b (drop a l))) (drop a l) ≡ drop (suc (find_from b l a)) l
unfolding find_from
after_found b l a = let r : a + suc (to_byte b (drop a l)) ≡ suc (a + to_byte b (drop a l)) = omega arith in rw (drop-drop, r)

-- after the next parting byte stands the next piece
pub pieces_next : (b : ℕ) (l : List ℕ) (j a : ℕ) → From b l j a → find_from b l a < length l → From b l (suc j) (suc (find_from b l a))
unfolding find_from
pieces_next b l j a e h =
    let lt : to_byte b (drop a l) < length (drop a l) = omega (arith, length-drop a l) in
    let p : drop (suc j) (pieces b l) ≡ drop 1 (drop j (pieces b l)) = rw (drop-drop, add-one) in
    p ∙ rw (e, pieces_cut b (drop a l) lt, after_found b l a)

-- with none there is no next piece
pub pieces_end : (b : ℕ) (l : List ℕ) (j a : ℕ) → From b l j a → length l ≤ find_from b l a → length (pieces b l) ≡ suc j
unfolding find_from
pieces_end b l j a e h =
    let le : length (drop a l) ≤ to_byte b (drop a l) = omega (arith, length-drop a l) in
    let n : length (drop j (pieces b l)) ≡ 1 = rw (e, pieces_one b (drop a l) le) in
    omega (arith, length-drop j (pieces b l))

-- the first piece, and the one that stands from the index on
first_piece : (b : ℕ) (s : List ℕ) → get_or (pieces b s) 0 [] ≡ take (to_byte b s) s
first_piece b s = ⊎_elim (λ h. rw (pieces_cut b s h)) (λ h. rw (pieces_one b s h, take_all (to_byte b s) s h)) (lt_or_ge (to_byte b s) (length s))

pub piece_here : (b : ℕ) (l : List ℕ) (j a : ℕ) → From b l j a → get_or (pieces b l) j [] ≡ take (find_from b l a - a) (drop a l)
unfolding find_from
piece_here b l j a e =
    let p : get_or (pieces b l) j [] ≡ get_or (drop j (pieces b l)) 0 [] = let z : j + 0 ≡ j = omega arith in rw (get_or-drop, z) in
    let q : a + to_byte b (drop a l) - a ≡ to_byte b (drop a l) = omega arith in
    p ∙ rw (e, q) (first_piece b (drop a l))
