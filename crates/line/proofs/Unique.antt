-- No second outcome satisfies the contracts of the four public functions of a line.
use Rattle.std.proofs.Common.{Option, Result}
use mathlib.Core.Path.{◌≡◌, ap}
use mathlib.Core.Bool.{Bool}
use mathlib.Core.List.{List}
use Prim.Native.Nat.{ℕ}
use Rattle.text.specs.declared.refusal.Refusal.{Refusal}
use Rattle.text.specs.Refusal.{numbered}
use Rattle.text.proofs.Refusals.{numbered_same}
use Rattle.text.proofs.Tight.{unique}
use Rattle.line.specs.declared.event.Event.{Event}
use Rattle.line.specs.declared.reading.Reading.{Reading}
use Rattle.line.specs.declared.reading.Split.{Split}
use Rattle.line.specs.declared.reading.NextRead.{NextRead}
use Rattle.line.specs.Reading.{read_line, split_line, next_reading}
use Rattle.line.specs.Writing.{Wrote, wrote, write_line}

pub read_unique : (l : List ℕ) (r s : Reading) → r ≡ read_line l → s ≡ read_line l → r ≡ s
read_unique = unique read_line

pub split_unique : (l : List ℕ) (x y : Split) → x ≡ split_line l → y ≡ split_line l → x ≡ y
split_unique = unique split_line

pub read_next_unique : (whole : Bool) (s : List ℕ) (at : ℕ) (x y : Option NextRead) → x ≡ next_reading whole s at → y ≡ next_reading whole s at → x ≡ y
read_next_unique whole s = unique (next_reading whole s)

pub write_unique : (e : Event) (source target note out : List ℕ) (r s : Result ℕ ℕ) (m n : List ℕ) → wrote r m ≡ write_line e source target note out → wrote s n ≡ write_line e source target note out → (r ≡ s) × (m ≡ n)
write_unique e source target note out r s m n p q =
    let w = unique (write_line e source target note) out (wrote r m) (wrote s n) p q in
    (ap (λ (x : Wrote). x.answer) w, ap (λ (x : Wrote). x.output) w)

-- and so of the code's own answers, since no two refusals have one number
pub write_once : (e : Event) (source target note out : List ℕ) (r s : Result ℕ Refusal) (m n : List ℕ) → wrote (numbered r) m ≡ write_line e source target note out → wrote (numbered s) n ≡ write_line e source target note out → (r ≡ s) × (m ≡ n)
write_once e source target note out r s m n p q =
    let (answers, outputs) = write_unique e source target note out (numbered r) (numbered s) m n p q in
    (numbered_same r s answers, outputs)
