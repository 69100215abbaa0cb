-- How tight the contracts of dates, notes and source rules are: no second answer, and wrong answers that they shut out.
use Rattle.std.proofs.Common.{is_none, Some, Option}
use mathlib.Core.Path.{◌≡◌, refl}
use mathlib.Core.Bool.{Bool, not}
use mathlib.Core.List.{List}
use Prim.Native.Nat.{ℕ}
use Rattle.text.specs.Literal.{bytes}
use Rattle.text.specs.Bytes.{to_byte}
use Rattle.text.specs.Number.{are_digits, number_of}
use Rattle.text.proofs.Tight.{unique, ShutsOut, shut_out}
use Rattle.words.specs.declared.kind.Kind.{Kind}
use Rattle.words.specs.declared.kind.Kind.TheVariants.{Semaphore}
use Rattle.words.specs.declared.action.Action.{Action}
use Rattle.forms.specs.Date.{fits_byte, fits_pattern, digit_at, two_at, is_leap, days_in, is_day, is_time, is_moment}
use Rattle.forms.specs.Note.{count_note, is_decimal, is_signal, signal_note, note_of}
use Rattle.forms.specs.Rule.{rule_broken}

-- ---- `moment`

pub moment_unique : (s : List ℕ) (x y : Bool) → x ≡ is_moment s → y ≡ is_moment s → x ≡ y
moment_unique = unique is_moment

-- the pattern alone does not make a date
pub moment_not_by_pattern : ShutsOut is_moment (λ s. fits_pattern s (bytes "0000-00-00T00:00:00Z"))
unfolding is_moment is_day is_time days_in is_leap two_at digit_at fits_pattern fits_byte
moment_not_by_pattern = shut_out not (bytes "2026-02-29T00:00:00Z") refl refl

-- ---- `note_of`

pub note_unique : (k : Kind) (s : List ℕ) (x y : Option ℕ) → x ≡ note_of k s → y ≡ note_of k s → x ≡ y
note_unique k = unique (note_of k)

-- a semaphore's note is a count, and not any name
pub note_not_any : ShutsOut (note_of Semaphore) (λ s. Some 0)
unfolding note_of count_note number_of
note_not_any = shut_out is_none (bytes "x") refl refl

-- nor a signal's value, which may have a sign
pub note_not_as_a_signal : ShutsOut (note_of Semaphore) signal_note
unfolding note_of count_note number_of signal_note is_signal is_decimal are_digits to_byte
note_not_as_a_signal = shut_out is_none (bytes "-1") refl refl

-- ---- `rule_broken`

pub rule_unique : (k : Kind) (a : Action) (source : List ℕ) (i : ℕ) (target : List ℕ) (j : ℕ) (note : List ℕ) (x y : Bool)
    → x ≡ rule_broken k a source i target j note → y ≡ rule_broken k a source i target j note → x ≡ y
rule_unique k a source i target j = unique (rule_broken k a source i target j)
