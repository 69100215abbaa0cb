-- How tight the contracts of the three functions are: no second part and no second places satisfy them, and wrong answers that they shut out.
use mathlib.Core.Path.{◌≡◌, refl, sym, ◌∙◌}
use mathlib.Core.Bool.{cond}
use mathlib.Core.List.{List, []}
use Prim.Native.Nat.{ℕ, suc}
use native.Mathlib.Omega.{arith}
use denote.Ref.{Bor}
use lib.Dec.{eqb, ltb}
use lib.ListN.{length, take, drop}
use Rattle.text.specs.Literal.{bytes}
use Rattle.text.specs.Bytes.{same_bytes, to_byte, find_from}
use Rattle.text.specs.Pieces.{pieces}
use Rattle.text.proofs.Tight.{unique, ShutsOut, shut_out}
use Rattle.fields.specs.declared.part.Commas.{Commas}
use Rattle.fields.specs.Part.{parts_of, field_of, part_from, comma_at, field_at, part_at, IsPart, IsField, IsBetween, commas_of}

-- ---- parts of a line: of each its place in memory too, for two parts with the same bytes are not the same

part_unique : (line : Bor (List ℕ)) (start : ℕ) (part : List ℕ) (p q : Bor (List ℕ)) → IsPart line start part p → IsPart line start part q →
    (p.ref_ptr.0 ≡ q.ref_ptr.0) × (p.ref_ptr.1 ≡ q.ref_ptr.1) × (p.now ≡ q.now)
part_unique line start part p q x y = (x.block ∙ sym y.block, x.place ∙ sym y.place, x.bytes ∙ sym y.bytes)

-- ---- `field`

pub field_unique : (line : Bor (List ℕ)) (k : ℕ) (p q : Bor (List ℕ)) → IsField line k p → IsField line k q →
    (p.ref_ptr.0 ≡ q.ref_ptr.0) × (p.ref_ptr.1 ≡ q.ref_ptr.1) × (p.now ≡ q.now)
field_unique line k = part_unique line (field_at line.now k) (field_of line.now k)

pub field_not_from_zero : ShutsOut {A = List ℕ × ℕ} (λ (l, k). field_of l k) (λ (l, k). field_of l (suc k))
unfolding field_of parts_of pieces same_bytes
field_not_from_zero = shut_out (same_bytes (bytes "a")) (bytes "a,b", 1) refl refl

-- the last part for a field that is missing
pub field_not_the_last :
    ShutsOut {A = List ℕ × ℕ} (λ (l, k). field_of l k) (λ (l, k). cond (ltb (length (parts_of l)) k) (field_of l (length (parts_of l))) (field_of l k))
unfolding field_of parts_of pieces same_bytes
field_not_the_last = shut_out (same_bytes []) (bytes "a,b", 3) refl refl

-- another part with the same bytes: of `a,a` the second part is not the first
pub field_not_alike : (line r : Bor (List ℕ)) → line.now ≡ bytes "a,a" → IsField line 2 r → IsField line 1 r → ⊥
unfolding field_at comma_at find_from to_byte
field_not_alike line r e second first = let p = rw e at second.place in let q = rw e at first.place in omega (arith, p, q)

-- ---- `between`

pub between_unique : (line : Bor (List ℕ)) (a b : ℕ) (p q : Bor (List ℕ)) → IsBetween line a b p → IsBetween line a b q →
    (p.ref_ptr.0 ≡ q.ref_ptr.0) × (p.ref_ptr.1 ≡ q.ref_ptr.1) × (p.now ≡ q.now)
between_unique line a b = part_unique line (part_at line.now (suc a)) (part_from line.now (suc a) b)

abbrev between : List ℕ × ℕ × ℕ → List ℕ
between (l, a, b) = part_from l (suc a) b

-- the comma before it too
pub between_not_the_comma : ShutsOut between (λ (l, a, b). part_from l a b)
unfolding part_from same_bytes
between_not_the_comma = shut_out (same_bytes (bytes "b")) (bytes "a,b,c", 1, 3) refl refl

-- all that follows, whatever the second place
pub between_not_the_rest : ShutsOut between (λ (l, a, b). drop (suc a) l)
unfolding part_from same_bytes
between_not_the_rest = shut_out (same_bytes (bytes "b")) (bytes "a,b,c", 1, 3) refl refl

-- ---- `split`

pub commas_unique : (l : List ℕ) (x y : Commas) → x ≡ commas_of l → y ≡ commas_of l → x ≡ y
commas_unique = unique commas_of

-- each time the first comma once more
pub commas_not_the_first : ShutsOut commas_of (λ l. let c = comma_at l 0 in record { c1 = c; c2 = c; c3 = c; c4 = c; c5 = c; c6 = c; c7 = c; c8 = c })
unfolding comma_at find_from to_byte
commas_not_the_first = shut_out (λ c. eqb c.c2 3) (bytes "a,b,c") refl refl

-- those of the line's first 16 bytes alone
pub commas_not_of_the_front : ShutsOut commas_of (λ l. commas_of (take 16 l))
unfolding comma_at find_from to_byte
commas_not_of_the_front = shut_out (λ c. eqb c.c1 20) (bytes "12345678901234567890,Core_1") refl refl
