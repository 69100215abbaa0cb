-- Laws of the words of the time scales: which numbers have none, how long each is, and which number a word names.
use Rattle.std.proofs.Common.{None, Some}
use mathlib.Core.Path.{◌≡◌, refl, ap, ◌∙◌}
use mathlib.Core.List.{List, []}
use Prim.Native.Nat.{ℕ, zero, suc, ◌≤◌, ◌<◌}
use native.Mathlib.Omega.{arith}
use lib.ListN.{length}
use borrow.Author.Tests.{ne_eqb}
use Rattle.text.specs.Bytes.{same_bytes}
use Rattle.words.specs.declared.scale.Scale.{Scale}
use Rattle.words.specs.declared.scale.Scale.TheVariants.{Picoseconds, Nanoseconds, Microseconds, Milliseconds, Seconds}
use Rattle.words.specs.Named.{pick}
use Rattle.words.specs.Scale.{scale_word, scales, scale_of}
use Rattle.words.proofs.Found.{first_named_lem}
use Rattle.bill.specs.Scale.{scale_number, scale_text}
use Rattle.bill.specs.Reading.{scale_code}

pub scale_none : (n : ℕ) → (n ≡ 1 → ⊥) → (n ≡ 2 → ⊥) → (n ≡ 3 → ⊥) → (n ≡ 4 → ⊥) → (n ≡ 5 → ⊥) → scale_text n ≡ []
unfolding scale_text
scale_none n h1 h2 h3 h4 h5 = rw (ne_eqb n 1 h1, ne_eqb n 2 h2, ne_eqb n 3 h3, ne_eqb n 4 h4, ne_eqb n 5 h5)

pub scale_past : (n : ℕ) → 5 < n → scale_text n ≡ []
scale_past n h = scale_none n (λ e. omega arith) (λ e. omega arith) (λ e. omega arith) (λ e. omega arith) (λ e. omega arith)

pub scale_two : (n : ℕ) → (n ≡ 0 → ⊥) → (n ≡ 5 → ⊥) → n ≤ 5 → length (scale_text n) ≡ 2
unfolding scale_text scale_word
scale_two zero z f h = absurd (z refl)
scale_two (suc zero) z f h = refl
scale_two (suc (suc zero)) z f h = refl
scale_two (suc (suc (suc zero))) z f h = refl
scale_two (suc (suc (suc (suc zero)))) z f h = refl
scale_two (suc (suc (suc (suc (suc n))))) z f h = absurd (f (omega arith))

pub scale_short : (n : ℕ) → length (scale_text n) ≤ 2
unfolding scale_text scale_word
scale_short zero = omega arith
scale_short (suc zero) = omega arith
scale_short (suc (suc zero)) = omega arith
scale_short (suc (suc (suc zero))) = omega arith
scale_short (suc (suc (suc (suc zero)))) = omega arith
scale_short (suc (suc (suc (suc (suc zero))))) = omega arith
scale_short (suc (suc (suc (suc (suc (suc n)))))) = omega (arith, ap length (scale_past (suc (suc (suc (suc (suc (suc n)))))) (omega arith)))

-- ---- the number that bytes name

pub scale_back : (n : ℕ) → 1 ≤ n → n ≤ 5 → scale_code (scale_of (scale_text n)) ≡ n
unfolding scale_text scale_of scale_word scale_number pick same_bytes
scale_back zero l h = absurd (omega arith)
scale_back (suc zero) l h = refl
scale_back (suc (suc zero)) l h = refl
scale_back (suc (suc (suc zero))) l h = refl
scale_back (suc (suc (suc (suc zero)))) l h = refl
scale_back (suc (suc (suc (suc (suc zero))))) l h = refl
scale_back (suc (suc (suc (suc (suc (suc n)))))) l h = absurd (omega arith)

number_word : (c : Scale) → (scale_word c ≡ scale_text (scale_number c)) × (scale_number c ≤ 5)
unfolding scale_text scale_number
number_word Picoseconds = (refl, omega arith)
number_word Nanoseconds = (refl, omega arith)
number_word Microseconds = (refl, omega arith)
number_word Milliseconds = (refl, omega arith)
number_word Seconds = (refl, omega arith)

-- a number is named by its own word alone
pub scale_named : (s : List ℕ) → 1 ≤ scale_code (scale_of s) → (s ≡ scale_text (scale_code (scale_of s))) × (scale_code (scale_of s) ≤ 5)
unfolding scale_of
scale_named s =
    first_named_lem scale_word Some None s (λ f. 1 ≤ scale_code f → (s ≡ scale_text (scale_code f)) × (scale_code f ≤ 5)) scales
    (λ h. absurd (omega arith))
    (λ c e h. (e ∙ (number_word c).0, (number_word c).1))
