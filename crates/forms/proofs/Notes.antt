-- Laws of notes: where a value's dot stands, what its first byte says, and that an empty note is no note.
use Rattle.std.proofs.Common.{Some}
use mathlib.Core.Path.{◌≡◌, refl}
use mathlib.Core.Bool.{false, ◌&&◌}
use mathlib.Core.List.{List, [], ◌∷◌}
use Prim.Native.Nat.{ℕ, ◌+◌, ◌-◌, ◌≤◌, ◌<◌}
use native.Mathlib.Nat.{suc-ne-zero, zero-add, sub-zero}
use native.Mathlib.Numerals.{add-one}
use lib.ListN.{length, get_or, take, drop}
use borrow.Author.Tests.{eq-eqb, ne_eqb, le-leb, lt-leb}
use Rattle.text.specs.Bytes.{to_byte, find_from}
use Rattle.text.specs.Number.{are_digits}
use Rattle.words.specs.declared.kind.Kind.{Kind}
use Rattle.forms.specs.Note.{is_decimal, is_signal, note_at, note_of}

-- ---- the dot, which is looked for from the front

first_dot : (s : List ℕ) (dot : ℕ) → dot ≡ find_from 46 s 0 → dot ≡ to_byte 46 s
unfolding find_from
first_dot s dot e = rw zero-add at e

pub no_dot : (s : List ℕ) (dot : ℕ) → dot ≡ find_from 46 s 0 → length s ≤ dot → are_digits s ≡ is_decimal s
unfolding is_decimal
no_dot s dot e h = let d = first_dot s dot e in rw (← d, le-leb (length s) dot h)

-- the front as a part from 0 is read
pub at_dot : (s : List ℕ) (dot : ℕ) → dot ≡ find_from 46 s 0 → dot < length s → are_digits (take (dot - 0) s) && are_digits (drop (dot + 1) s) ≡ is_decimal s
unfolding is_decimal
at_dot s dot e h = let d = first_dot s dot e in rw (← d, lt-leb (length s) dot h, sub-zero, add-one)

-- ---- the first byte

pub empty_signal : (s : List ℕ) → length s ≡ 0 → is_signal s ≡ false
unfolding is_signal
empty_signal [] e = refl
empty_signal (x ∷ s) e = absurd (suc-ne-zero _ e)

pub empty_decimal : (s : List ℕ) → length s ≡ 0 → is_decimal s ≡ is_signal s
unfolding is_signal is_decimal are_digits to_byte
empty_decimal [] e = refl
empty_decimal (x ∷ s) e = absurd (suc-ne-zero _ e)

pub minus_signal : (s : List ℕ) → (length s ≡ 0 → ⊥) → get_or s 0 0 ≡ 45 → is_decimal (drop 1 s) ≡ is_signal s
unfolding is_signal
minus_signal [] n e = absurd (n refl)
minus_signal (x ∷ s) n e = rw (eq-eqb x 45 e)

pub plain_signal : (s : List ℕ) → (length s ≡ 0 → ⊥) → (get_or s 0 0 ≡ 45 → ⊥) → is_decimal s ≡ is_signal s
unfolding is_signal
plain_signal [] n e = absurd (n refl)
plain_signal (x ∷ s) n e = rw (ne_eqb x 45 e)

-- ---- a note that is there

pub empty_note : (k : Kind) (s : List ℕ) → length s ≡ 0 → note_of k s ≡ Some 0
unfolding note_of
empty_note k [] e = refl
empty_note k (x ∷ s) e = absurd (suc-ne-zero _ e)

pub some_note : (k : Kind) (s : List ℕ) → (length s ≡ 0 → ⊥) → note_of k s ≡ note_at k s
unfolding note_of
some_note k [] n = absurd (n refl)
some_note k (x ∷ s) n = refl
