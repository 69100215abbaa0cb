-- What has no blank and no end of line in it: a name, the digits of a number and the word of a time scale. A row's figures have no end of line.
use mathlib.Core.Path.{◌≡◌, refl, ap}
use mathlib.Core.Bool.{true, not}
use mathlib.Core.List.{List, [], ◌∷◌, ◌++◌}
use Prim.Native.Nat.{ℕ, zero, suc, ◌<◌}
use native.Mathlib.Omega.{arith}
use lib.Dec.{eqb}
use lib.ListN.{length}
use borrow.Author.Tests.{eq-eqb, ne_eqb, not-true}
use Rattle.text.specs.Literal.{bytes}
use Rattle.text.specs.Bytes.{to_byte}
use Rattle.text.specs.Name.{is_name_byte, all_name_bytes, is_name}
use Rattle.text.specs.Number.{digits_of}
use Rattle.text.proofs.Bools.{and_l, and_r}
use Rattle.text.proofs.Digits.{digits_all}
use Rattle.text.proofs.Names.{name_byte, name_bytes, digits_names}
use Rattle.text.proofs.Pieces.{without}
use Rattle.words.specs.Scale.{scale_word}
use Rattle.bill.specs.Scale.{scale_text}
use Rattle.bill.specs.Text.{figures_text}
use Rattle.bill.proofs.Scales.{scale_past}

-- each is below the bytes of names
clean : (b : ℕ) (s : List ℕ) → b < 33 → all_name_bytes s ≡ true → without b s ≡ true
unfolding without all_name_bytes
clean b [] h e = refl
clean b (x ∷ s) h e =
    let k = (name_byte x (and_l (is_name_byte x) (all_name_bytes s) e)).0 in
    rw (ne_eqb x b (λ q. omega (arith, q))) (clean b s h (and_r (is_name_byte x) (all_name_bytes s) e))

pub name_clean : (b : ℕ) (s : List ℕ) → b < 33 → is_name s ≡ true → without b s ≡ true
name_clean b s h e = clean b s h (name_bytes s e)

pub digits_clean : (b n : ℕ) → b < 33 → without b (digits_of n) ≡ true
digits_clean b n h = clean b (digits_of n) h (digits_names (digits_of n) (digits_all n))

pub scale_clean : (b n : ℕ) → b < 33 → without b (scale_text n) ≡ true
unfolding scale_text scale_word without
scale_clean b zero h = refl
scale_clean b (suc zero) h = clean b (bytes "ps") h (unfold all_name_bytes is_name_byte in refl)
scale_clean b (suc (suc zero)) h = clean b (bytes "ns") h (unfold all_name_bytes is_name_byte in refl)
scale_clean b (suc (suc (suc zero))) h = clean b (bytes "us") h (unfold all_name_bytes is_name_byte in refl)
scale_clean b (suc (suc (suc (suc zero)))) h = clean b (bytes "ms") h (unfold all_name_bytes is_name_byte in refl)
scale_clean b (suc (suc (suc (suc (suc zero))))) h = clean b (bytes "s") h (unfold all_name_bytes is_name_byte in refl)
scale_clean b (suc (suc (suc (suc (suc (suc n)))))) h = rw (scale_past (suc (suc (suc (suc (suc (suc n)))))) (omega arith))

-- ---- one after the other

pub clean_append : (b : ℕ) (s t : List ℕ) → without b s ≡ true → without b t ≡ true → without b (s ++ t) ≡ true
unfolding without
clean_append b [] t e f = f
clean_append b (x ∷ s) t e f = rw (and_l (not (eqb x b)) (without b s) e) (clean_append b s t (and_r (not (eqb x b)) (without b s) e) f)

-- each figure stands after a blank
pub figures_clean : (fs : List ℕ) → without 10 (figures_text fs) ≡ true
unfolding figures_text without
figures_clean [] = refl
figures_clean (n ∷ ns) = clean_append 10 (digits_of n) (figures_text ns) (digits_clean 10 n (omega arith)) (figures_clean ns)

-- the first byte b is the one after them
pub clean_to : (b : ℕ) (s t : List ℕ) → without b s ≡ true → to_byte b (s ++ b ∷ t) ≡ length s
unfolding without to_byte
clean_to b [] t e = rw (eq-eqb b b refl)
clean_to b (x ∷ s) t e =
    rw (not-true (eqb x b) (and_l (not (eqb x b)) (without b s) e)) (ap suc (clean_to b s t (and_r (not (eqb x b)) (without b s) e)))
