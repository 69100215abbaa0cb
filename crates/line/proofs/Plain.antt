-- Laws of plain lines: one has no break, and its fields have only bytes that a name may have.
use mathlib.Core.Path.{◌≡◌, refl}
use mathlib.Core.Bool.{true, false, not, ◌&&◌}
use mathlib.Core.List.{List, [], ◌∷◌}
use Prim.Native.Nat.{ℕ, zero, suc, ◌-◌, ◌≤◌}
use native.Mathlib.Omega.{arith}
use lib.Dec.{eqb, leb}
use lib.ListN.{take, drop}
use borrow.Author.Tests.{leb-true, ne_eqb}
use Rattle.text.specs.Name.{is_name_byte, all_name_bytes, all_plain}
use Rattle.text.proofs.Bools.{and_l, and_r}
use Rattle.text.proofs.Pieces.{without}
use Rattle.fields.specs.declared.part.Commas.{Commas}
use Rattle.fields.specs.Part.{field_of, part_from, comma_at, commas_of}
use Rattle.fields.proofs.Parts.{no_comma, field_clean, field_place}
use Rattle.line.specs.Event.{PlainFields}
use Rattle.line.specs.Reading.{has_break}

-- ---- no break stands in a plain line

plain_byte : (x : ℕ) (l : List ℕ) → (leb 33 x && leb x 126) && all_plain l ≡ true → 33 ≤ x
plain_byte x l e = leb-true 33 x (and_l (leb 33 x) (leb x 126) (and_l (leb 33 x && leb x 126) (all_plain l) e))

pub plain_whole : (l : List ℕ) → all_plain l ≡ true → has_break l ≡ false
unfolding all_plain has_break
plain_whole [] e = refl
plain_whole (x ∷ l) e =
    let lo = plain_byte x l e in
    rw (ne_eqb x 10 (λ q. omega (arith, q)), ne_eqb x 13 (λ q. omega (arith, q)), plain_whole l (and_r (leb 33 x && leb x 126) (all_plain l) e))

-- ---- the fields of a plain line

plain_drop : (n : ℕ) (l : List ℕ) → all_plain l ≡ true → all_plain (drop n l) ≡ true
unfolding all_plain
plain_drop zero l e = e
plain_drop (suc n) [] e = refl
plain_drop (suc n) (x ∷ l) e = plain_drop n l (and_r (leb 33 x && leb x 126) (all_plain l) e)

plain_take : (n : ℕ) (l : List ℕ) → all_plain l ≡ true → all_plain (take n l) ≡ true
unfolding all_plain
plain_take zero l e = refl
plain_take (suc n) [] e = refl
plain_take (suc n) (x ∷ l) e = rw (and_l (leb 33 x && leb x 126) (all_plain l) e) (plain_take n l (and_r (leb 33 x && leb x 126) (all_plain l) e))

plain_names : (s : List ℕ) → all_plain s ≡ true → no_comma s ≡ true → all_name_bytes s ≡ true
unfolding all_plain no_comma without all_name_bytes is_name_byte
plain_names [] p c = refl
plain_names (x ∷ s) p c =
    rw (and_l (leb 33 x && leb x 126) (all_plain s) p, and_l (not (eqb x 44)) (without 44 s) c)
    (plain_names s (and_r (leb 33 x && leb x 126) (all_plain s) p) (and_r (not (eqb x 44)) (without 44 s) c))

plain_field : (l : List ℕ) (k : ℕ) → all_plain l ≡ true → all_name_bytes (field_of l (suc (suc k))) ≡ true
unfolding part_from
plain_field l k e =
    let a = suc (comma_at l k) in
    let p : all_plain (part_from l a (comma_at l (suc k))) ≡ true = plain_take (comma_at l (suc k) - a) (drop a l) (plain_drop a l e) in
    plain_names (field_of l (suc (suc k))) (rw (field_place l k) p) (field_clean l (suc (suc k)))

-- the source, the target and the note
pub plain_fields : (l : List ℕ) (c : Commas) → c ≡ commas_of l → all_plain l ≡ true
    → PlainFields (part_from l (suc c.c1) c.c2) (part_from l (suc c.c4) c.c5) (part_from l (suc c.c7) c.c8)
plain_fields l c e p =
    rw e (record {
      source_bytes = rw (field_place l 0) at (plain_field l 0 p);
      target_bytes = rw (field_place l 3) at (plain_field l 3 p);
      note_bytes = rw (field_place l 6) at (plain_field l 6 p);
    })
