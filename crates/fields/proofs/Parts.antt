-- Laws of the parts of a line: the fields stand between the commas, there is one part more than commas, a line is its parts joined by
-- commas, and no part has one.
use mathlib.Core.Path.{◌≡◌, refl, sym, subst, ◌∙◌}
use mathlib.Core.Bool.{Bool, true, false, ◌||◌}
use mathlib.Core.Logic.{⊎_elim}
use mathlib.Core.List.{List, [], ◌∷◌, ◌++◌}
use Prim.Native.Nat.{ℕ, zero, suc, ◌+◌, ◌-◌, ◌≤◌, ◌<◌}
use native.Mathlib.Nat.{not-suc-le-zero, eq-or-lt_of_le}
use native.Mathlib.Numerals.{add-one}
use native.Mathlib.Omega.{arith}
use denote.Ref.{Bor}
use lib.Dec.{eqb, ltb}
use lib.ListN.{length, take, drop, length-drop, drop_of_length-le, take-append-drop, get_or-eq_default}
use lib.Seq.{take_all, take-nil, take-append_seam}
use borrow.Author.Tests.{eq-eqb, ne_eqb, lt-ltb, le-ltb, le-leb, lt-leb}
use Rattle.text.specs.Bytes.{find_from}
use Rattle.text.specs.Name.{is_name_byte, all_name_bytes, is_name}
use Rattle.text.proofs.Bools.{and_l, and_r, lt_or_ge}
use Rattle.text.proofs.Finds.{find_ge, find_le}
use Rattle.text.proofs.Pieces.{pieces_some, pieces_join, pieces_last, join_pieces, piece_clean, without, joined_by}
use Rattle.text.proofs.PiecesFrom.{pieces_next, pieces_end, piece_here}
use Rattle.text.proofs.Names.{name_byte, name_bytes}
use Rattle.fields.specs.Part.{parts_of, field_of, part_from, comma_at, start_at, part_at, field_at, IsField, IsBetween}

some_part : (l : List ℕ) → 1 ≤ length (parts_of l)
unfolding parts_of
some_part l = pieces_some 44 l

-- ---- the parts from an index on

-- the parts after the first j of them are those of what stands from the index a on
abbrev pub From : List ℕ → ℕ → ℕ → Type 0
From l j a = drop j (parts_of l) ≡ parts_of (drop a l)

-- after the next comma stands the next part
from_next : (l : List ℕ) (j a : ℕ) → From l j a → find_from 44 l a < length l → From l (suc j) (suc (find_from 44 l a))
unfolding parts_of
from_next l j a e h = pieces_next 44 l j a e h

-- with no comma there is no next part
from_end : (l : List ℕ) (j a : ℕ) → From l j a → length l ≤ find_from 44 l a → length (parts_of l) ≤ suc j
unfolding parts_of
from_end l j a e h = omega (arith, pieces_end 44 l j a e h)

from_here : (l : List ℕ) (j a : ℕ) → From l j a → field_of l (suc j) ≡ part_from l a (find_from 44 l a)
unfolding field_of parts_of part_from
from_here l j a e = piece_here 44 l j a e

pub field_missing : (l : List ℕ) (k : ℕ) → length (parts_of l) ≤ k → field_of l (suc k) ≡ []
unfolding field_of
field_missing l k h = get_or-eq_default (parts_of l) [] h

-- ---- what `field` does at a turn: the field asked for is the k-th, a is where the j-th starts, and n where a comma was looked for

pub field_turn : (l : List ℕ) (j a n : ℕ) → n ≡ find_from 44 l a → 1 ≤ j → From l (j - 1) a → n < length l → From l (j + 1 - 1) (n + 1)
field_turn l j a n e h f k =
    let p : j + 1 - 1 ≡ suc (j - 1) = omega arith in
    rw (p, add-one, e) (from_next l (j - 1) a f (rw e at k))

pub field_stop : (l : List ℕ) (k j a n : ℕ) → n ≡ find_from 44 l a → 1 ≤ j → From l (j - 1) a → length l ≤ n → j < k → field_of l k ≡ []
field_stop l zero j a n e h f g lt = absurd (not-suc-le-zero lt)
field_stop l (suc k) j a n e h f g lt = field_missing l k (omega (arith, from_end l (j - 1) a f (rw e at g)))

pub field_found : (l : List ℕ) (k j a n : ℕ) → n ≡ find_from 44 l a → 1 ≤ j → From l (j - 1) a → j ≤ k → k ≤ j → field_of l k ≡ part_from l a n
field_found l k j a n e h f g le =
    let p : k ≡ suc (j - 1) = omega arith in
    rw (p, e) (from_here l (j - 1) a f)

-- ---- what `between` does: a part that starts past the end or ends before it starts is empty, none ends past the end, and where each starts

pub part_past : (l : List ℕ) (a b : ℕ) → length l ≤ a → part_from l a b ≡ []
unfolding part_from
part_past l a b h = rw (drop_of_length-le l h, take-nil)

pub part_none : (l : List ℕ) (a b : ℕ) → b ≤ a → part_from l a a ≡ part_from l a b
unfolding part_from
part_none l a b h = let y : a - a ≡ 0 = omega arith in let z : b - a ≡ 0 = omega arith in rw (y, z)

pub part_end : (l : List ℕ) (a b : ℕ) → length l ≤ b → part_from l a (length l) ≡ part_from l a b
unfolding part_from
part_end l a b h =
    rw (take_all (length l - a) (drop a l) (omega (arith, length-drop a l)), take_all (b - a) (drop a l) (omega (arith, length-drop a l)))

pub at_past : (l : List ℕ) (a : ℕ) → length l ≤ a → part_at l (suc a) ≡ 0
at_past l a h = rw (lt-leb (suc a) (length l) (omega arith))

pub at_inside : (l : List ℕ) (a : ℕ) → a < length l → part_at l (suc a) ≡ suc a
at_inside l a h = rw (le-leb (suc a) (length l) h)

-- ---- the commas, one after another

-- n is the place of the comma after k others, and that is at most k past the end
abbrev pub Place : List ℕ → ℕ → ℕ → Type 0
Place l k n = (n ≡ comma_at l k) × (n ≤ length l + k)

pub place_first : (l : List ℕ) (n : ℕ) → n ≡ find_from 44 l 0 → Place l 0 n
unfolding comma_at
place_first l n e = (e, rw e (find_le 44 l 0 (length l + 0) (omega arith) (omega arith)))

pub place_next : (l : List ℕ) (k n m : ℕ) → Place l k n → m ≡ find_from 44 l (n + 1) → Place l (suc k) m
unfolding comma_at
place_next l k n m p e = (e ∙ rw (p.0, add-one), rw e (find_le 44 l (n + 1) (length l + suc k) (omega arith) (omega arith)))

pub comma_grows : (l : List ℕ) (k : ℕ) → comma_at l k < comma_at l (suc k)
unfolding comma_at
comma_grows l k = find_ge 44 l (suc (comma_at l k))

after_comma : (l : List ℕ) (k : ℕ) → comma_at l k < length l → From l (suc k) (suc (comma_at l k))
unfolding comma_at
after_comma l zero h = from_next l 0 0 refl h
after_comma l (suc k) h = from_next l (suc k) (suc (comma_at l k)) (after_comma l k (omega (arith, comma_grows l k))) h

-- ---- where `field` finds its part

comma_from : (l : List ℕ) (k : ℕ) → comma_at l k ≡ find_from 44 l (start_at l k)
unfolding comma_at
comma_from l zero = refl
comma_from l (suc k) = refl

pub at_turn : (l : List ℕ) (j a n : ℕ) → n ≡ find_from 44 l a → 1 ≤ j → a ≡ start_at l (j - 1) → n + 1 ≡ start_at l (j + 1 - 1)
at_turn l j a n e h f =
    let p : j + 1 - 1 ≡ suc (j - 1) = omega arith in
    rw (p, add-one, e, f, comma_from l (j - 1))

past : (l : List ℕ) (i d : ℕ) → length l ≤ comma_at l i → length l < start_at l (suc i + d)
past l i zero h = let z : suc i + 0 ≡ suc i = omega arith in rw z (omega arith)
past l i (suc d) h = let z : suc i + suc d ≡ suc (suc (i + d)) = omega arith in let y : suc i + d ≡ suc (i + d) = omega arith in rw z (omega (arith, comma_grows l (i + d), rw y at (past l i d h)))

pub at_stop : (l : List ℕ) (k j a n : ℕ) → n ≡ find_from 44 l a → 1 ≤ j → a ≡ start_at l (j - 1) → length l ≤ n → j < k → field_at l k ≡ 0
unfolding field_at
at_stop l zero j a n e h f g lt = refl
at_stop l (suc k) j a n e h f g lt =
    let z : suc (j - 1) + (k - j) ≡ k = omega arith in
    rw (lt-leb _ _ (rw z at (past l (j - 1) (k - j) (rw (comma_from l (j - 1), ← f, ← e) g))))

pub at_found : (l : List ℕ) (k j a : ℕ) → 1 ≤ j → a ≡ start_at l (j - 1) → a ≤ length l → j ≤ k → k ≤ j → field_at l k ≡ a
unfolding field_at
at_found l k j a h f b g le =
    let p : k ≡ suc (j - 1) = omega arith in
    rw (p, ← f, le-leb _ _ b)

-- a comma after k others is there exactly when there are k + 2 parts or more
pub comma_there : (l : List ℕ) (k : ℕ) → comma_at l k < length l → suc (suc k) ≤ length (parts_of l)
comma_there l k h =
    let n : 1 ≤ length (drop (suc k) (parts_of l)) = rw (after_comma l k h) (some_part (drop (suc (comma_at l k)) l)) in
    omega (arith, length-drop (suc k) (parts_of l))

pub comma_missing : (l : List ℕ) (k : ℕ) → length l ≤ comma_at l k → length (parts_of l) ≤ suc k
unfolding comma_at
comma_missing l zero h = from_end l 0 0 refl h
comma_missing l (suc k) h =
    ⊎_elim (λ lt. from_end l (suc k) (suc (comma_at l k)) (after_comma l k lt) h) (λ ge. omega (arith, comma_missing l k ge)) (lt_or_ge (comma_at l k) (length l))

-- ---- the bytes of a field stand where it starts

-- a part of n bytes
pub part_front : (l : List ℕ) (a n : ℕ) → part_from l a (a + n) ≡ take n (drop a l)
unfolding part_from
part_front l a n = let z : a + n - a ≡ n = omega arith in rw z

front_again : (n : ℕ) (s : List ℕ) → take (length (take n s)) s ≡ take n s
front_again n s = subst (λ (t : List ℕ). take (length (take n s)) t ≡ take n s) (take-append-drop n s) (take-append_seam (take n s) (drop n s))

start_there : (l : List ℕ) (k : ℕ) → start_at l k ≤ length l → From l k (start_at l k)
start_there l zero h = refl
start_there l (suc k) h = after_comma l k (omega arith)

start_missing : (l : List ℕ) (k : ℕ) → length l < start_at l k → field_of l (suc k) ≡ []
start_missing l zero h = absurd (not-suc-le-zero h)
start_missing l (suc k) h = field_missing l (suc k) (comma_missing l k (omega arith))

field_zero : (l : List ℕ) → field_of l 0 ≡ []
unfolding field_of
field_zero l = refl

pub field_stands : (l : List ℕ) (k : ℕ) → part_from l (field_at l k) (field_at l k + length (field_of l k)) ≡ field_of l k
unfolding field_at part_from
field_stands l zero = rw (field_zero l)
field_stands l (suc k) =
    let a = start_at l k in
    ⊎_elim
    (λ h. rw (lt-leb a (length l) h, start_missing l k h))
    (λ h.
    let n = find_from 44 l a - a in
    let e : field_of l (suc k) ≡ take n (drop a l) = from_here l k a (start_there l k h) in
    rw (le-leb a (length l) h, e, part_front l a (length (take n (drop a l)))) (front_again n (drop a l)))
    (lt_or_ge (length l) a)

-- ---- the fields are what stands between the commas

pub field_first : (l : List ℕ) → field_of l 1 ≡ take (comma_at l 0) l
unfolding part_from comma_at
field_first l = let z : find_from 44 l 0 - 0 ≡ find_from 44 l 0 = omega arith in rw z at (from_here l 0 0 refl)

pub field_place : (l : List ℕ) (k : ℕ) → field_of l (suc (suc k)) ≡ part_from l (suc (comma_at l k)) (comma_at l (suc k))
unfolding comma_at
field_place l k =
    ⊎_elim (λ lt. from_here l (suc k) (suc (comma_at l k)) (after_comma l k lt)) (λ ge. field_missing l (suc k) (comma_missing l k ge) ∙ sym (part_past l (suc (comma_at l k)) (comma_at l (suc k)) (omega arith)))
    (lt_or_ge (comma_at l k) (length l))

-- and the part of a caller's line that stands between two commas is that very field
pub between_field : (line : Bor (List ℕ)) (k : ℕ) (r : Bor (List ℕ)) → IsBetween line (comma_at line.now k) (comma_at line.now (suc k)) r → IsField line (suc (suc k)) r
unfolding field_at
between_field line k r b = record { block = b.block; place = b.place; bytes = b.bytes ∙ sym (field_place line.now k) }

-- ---- seven or eight parts

pub parts_fit : (l : List ℕ) → comma_at l 5 < length l → length l ≤ comma_at l 7 → (eqb (length (parts_of l)) 7 || eqb (length (parts_of l)) 8) ≡ true
parts_fit l h k =
    let lo = comma_there l 5 h in
    let hi = comma_missing l 7 k in
    ⊎_elim (λ e. rw (eq-eqb (length (parts_of l)) 7 (sym e)))
    (λ lt. rw (ne_eqb (length (parts_of l)) 7 (λ e. omega (arith, e)), eq-eqb (length (parts_of l)) 8 (omega arith)))
    (eq-or-lt_of_le lo)

other_count : (n : ℕ) → (n ≡ 7 → ⊥) → (n ≡ 8 → ⊥) → (eqb n 7 || eqb n 8) ≡ false
other_count n h k = rw (ne_eqb n 7 h, ne_eqb n 8 k)

pub parts_few : (l : List ℕ) → length l ≤ comma_at l 5 → (eqb (length (parts_of l)) 7 || eqb (length (parts_of l)) 8) ≡ false
parts_few l h = let n = comma_missing l 5 h in other_count (length (parts_of l)) (λ e. omega (arith, e)) (λ e. omega (arith, e))

pub parts_many : (l : List ℕ) → comma_at l 7 < length l → (eqb (length (parts_of l)) 7 || eqb (length (parts_of l)) 8) ≡ false
parts_many l h = let n = comma_there l 7 h in other_count (length (parts_of l)) (λ e. omega (arith, e)) (λ e. omega (arith, e))

pub parts_eight : (l : List ℕ) → comma_at l 5 < length l → length l ≤ comma_at l 7 → eqb (length (parts_of l)) 8 ≡ ltb (comma_at l 6) (length l)
parts_eight l h k =
    let lo = comma_there l 5 h in
    let hi = comma_missing l 7 k in
    ⊎_elim (λ lt. let n = comma_there l 6 lt in rw (eq-eqb (length (parts_of l)) 8 (omega arith), lt-ltb (comma_at l 6) (length l) lt))
    (λ ge. let n = comma_missing l 6 ge in rw (ne_eqb (length (parts_of l)) 8 (λ e. omega (arith, e)), le-ltb (comma_at l 6) (length l) ge)) (lt_or_ge (comma_at l 6) (length l))

-- ---- parts joined by commas

-- no byte is a comma
unfoldable pub no_comma : List ℕ → Bool
no_comma s = without 44 s

-- a part with no comma, a comma and a line are that part and the line's parts
pub parts_join : (p t : List ℕ) → no_comma p ≡ true → parts_of (p ++ 44 ∷ t) ≡ p ∷ parts_of t
unfolding parts_of no_comma
parts_join p t e = pieces_join 44 p t e

pub parts_last : (p : List ℕ) → no_comma p ≡ true → parts_of p ≡ p ∷ []
unfolding parts_of no_comma
parts_last p e = pieces_last 44 p e

-- the line that parts make
unfoldable pub joined : List (List ℕ) → List ℕ
joined ps = joined_by 44 ps

pub join_parts : (l : List ℕ) → joined (parts_of l) ≡ l
unfolding parts_of joined
join_parts l = join_pieces 44 l

-- ---- what has no comma

-- no part of a line has one
pub field_clean : (l : List ℕ) (k : ℕ) → no_comma (field_of l k) ≡ true
unfolding field_of parts_of no_comma without
field_clean l zero = refl
field_clean l (suc k) = piece_clean 44 l k

-- a name has none, and digits have none
names_clean : (s : List ℕ) → all_name_bytes s ≡ true → no_comma s ≡ true
unfolding all_name_bytes no_comma without
names_clean [] e = refl
names_clean (x ∷ s) e = rw (ne_eqb x 44 (name_byte x (and_l (is_name_byte x) (all_name_bytes s) e)).2, names_clean s (and_r (is_name_byte x) (all_name_bytes s) e))

pub name_clean : (s : List ℕ) → is_name s ≡ true → no_comma s ≡ true
name_clean s e = names_clean s (name_bytes s e)
