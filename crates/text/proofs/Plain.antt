-- Laws of plain bytes: what `all_plain` does at a turn and at its end, and bytes that are each plain.
use Rattle.std.proofs.Common.{◌≡◌, ℕ, suc, ◌+◌, ◌<◌, ◌≤◌, Bool, true, false, not, ◌&&◌, ◌||◌, eqb, ltb, leb, List, [], ◌∷◌, length, get_or, drop, sym, refl, ◌∙◌, ⊎_elim, add-one, arith, drop_of_length-le, drop-cons, le-ltb, lt-ltb, ne_eqb, le-leb}
use mathlib.Core.Bool.{and-true, and-false, and_assoc}
use mir.Val.{bool_byte}
use lib.Bits.{bit_or, or_add_and, and_le_l, or_zero_r}
use borrow.Author.Tests.{lt-leb}
use Rattle.text.specs.Name.{all_plain}
use Rattle.text.proofs.Bools.{lt_or_ge}

-- nothing odd is seen where nothing was and this byte is none
odd_none : (a : ℕ) (t : Bool) → eqb (bit_or a (bool_byte t)) 0 ≡ eqb a 0 && not t
odd_none a true = rw (ne_eqb (bit_or a 1) 0 (λ e. omega (arith, or_add_and a 1, and_le_l a 1)), and-false)
odd_none a false = rw (or_zero_r a, and-true)

in_range : (x : ℕ) → not (ltb x 33 || ltb 126 x) ≡ leb 33 x && leb x 126
in_range x =
    ⊎_elim (λ lo. rw (lt-ltb x 33 lo, lt-leb 33 x lo))
    (λ ge. ⊎_elim (λ hi. rw (le-ltb x 33 ge, lt-ltb 126 x hi, lt-leb x 126 hi, and-false)) (λ le. rw (le-ltb x 33 ge, le-ltb 126 x le, le-leb 33 x ge, le-leb x 126 le)) (lt_or_ge 126 x))
    (lt_or_ge x 33)

pub plain_turn : (s : List ℕ) (i odd : ℕ) → i < length s → all_plain s ≡ eqb odd 0 && all_plain (drop i s)
    → all_plain s ≡ eqb (bit_or odd (bool_byte (ltb (get_or s i 0) 33 || ltb 126 (get_or s i 0)))) 0 && all_plain (drop (i + 1) s)
unfolding all_plain
plain_turn s i odd h e =
    let x = get_or s i 0 in
    e ∙ rw (drop-cons s i 0 h, add-one, odd_none, in_range) (sym (and_assoc (eqb odd 0) (leb 33 x && leb x 126) (all_plain (drop (suc i) s))))

pub plain_end : (s : List ℕ) (i odd : ℕ) → length s ≤ i → all_plain s ≡ eqb odd 0 && all_plain (drop i s) → all_plain s ≡ eqb odd 0
unfolding all_plain
plain_end s i odd h e = e ∙ rw (drop_of_length-le s h, all_plain, and-true)

abbrev pub Plain : ℕ → Type 0
Plain x = (33 ≤ x) × (x ≤ 126)

pub plain_all : (l : List ℕ) → ((i : ℕ) → i < length l → Plain (get_or l i 0)) → all_plain l ≡ true
unfolding all_plain
plain_all [] h = refl
plain_all (x ∷ l) h =
    let p : Plain x = h 0 (omega arith) in
    rw (le-leb 33 x p.0, le-leb x 126 p.1) (plain_all l (λ i k. h (suc i) (omega arith)))
