-- Notes: "required for SEM (a count) and `set_event` (a name); optional for SIG, as an optional minus, digits (leading zeros allowed)
-- and optionally a dot and digits; absent elsewhere". Here is the closer form; that any note is a name is asked of every note.
use Rattle.std.specs.Prelude.{ℕ, suc, Bool, true, false, ◌&&◌, cond, List, [], ◌∷◌, eqb, leb, length, take, drop, None, Some, Option}
use Rattle.text.specs.Bytes.{to_byte}
use Rattle.text.specs.Number.{are_digits, number_of}
use Rattle.words.specs.declared.kind.Kind.{Kind}
use Rattle.words.specs.declared.kind.Kind.TheVariants.{Stimulus, Task, Interrupt, Runnable, Scheduler, OsEvent, Signal, Semaphore}

-- "instance, semaphore count | 4,294,967,295"
abbrev pub max_instance : ℕ
max_instance = 4294967295

abbrev pub as_count : Option ℕ → Option ℕ
as_count (Some v) = Some v
as_count None = None

-- a semaphore's note is a count
unfoldable pub count_note : List ℕ → Option ℕ
count_note s = as_count (number_of s max_instance)

-- digits, and optionally a dot (byte 46) and digits
unfoldable pub is_decimal : List ℕ → Bool
is_decimal s = cond (leb (length s) (to_byte 46 s)) (are_digits s) (are_digits (take (to_byte 46 s) s) && are_digits (drop (suc (to_byte 46 s)) s))

-- an optional minus (byte 45) before that
abbrev pub after_minus : Bool → ℕ → List ℕ → Bool
after_minus true x s = is_decimal s
after_minus false x s = is_decimal (x ∷ s)

unfoldable pub is_signal : List ℕ → Bool
is_signal [] = false
is_signal (x ∷ s) = after_minus (eqb x 45) x s

-- a signal's note means no count
unfoldable pub signal_note : List ℕ → Option ℕ
signal_note s = cond (is_signal s) (Some 0) None

-- what a note that is there means at a type
abbrev pub note_at : Kind → List ℕ → Option ℕ
note_at Stimulus s = Some 0
note_at Task s = Some 0
note_at Interrupt s = Some 0
note_at Runnable s = Some 0
note_at Scheduler s = Some 0
note_at OsEvent s = Some 0
note_at Signal s = signal_note s
note_at Semaphore s = count_note s

-- an empty note is no note
unfoldable pub note_of : Kind → List ℕ → Option ℕ
note_of k [] = Some 0
note_of k (x ∷ s) = note_at k (x ∷ s)
