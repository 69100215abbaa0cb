-- How tight the contracts are: for the reads that came there is one answer, where something is refused there is one, and wrong answers that no reads
-- at all lead to.
use mathlib.Core.Path.{◌≡◌, refl, sym, ap, subst, ◌∙◌}
use mathlib.Core.Bool.{Bool, true, false, cond}
use mathlib.Core.Logic.{⊎_elim}
use mathlib.Core.List.{List, [], ◌∷◌, ◌++◌}
use Rattle.std.specs.Prelude.{Some, Result, Ok, Err}
use Prim.Native.Nat.{ℕ, ◌<◌}
use native.Mathlib.Omega.{arith}
use lib.Dec.{eqb}
use lib.ListN.{length, length-append, length-reverse}
use Rattle.text.specs.Bytes.{to_byte}
use Rattle.text.specs.Put.{written}
use Rattle.text.proofs.Bools.{lt_or_ge}
use Rattle.walk.specs.Lines.{last_line, lines_of}
use Rattle.walk.proofs.Cuts.{cut_whole, none_whole, none_rest}
use Rattle.bill.specs.Text.{sheet_text}
use Rattle.bill.specs.Verdict.{accepted_text, refused_text}
use Rattle.bill.proofs.VerdictLine.{length_accepted, length_refused}
use Rattle.rules.specs.declared.place.Place.{Place}
use Rattle.rules.specs.Sheet.{sheet, span}
use Rattle.rules.specs.Lines.{events_of}
use Rattle.rules.specs.Trace.{place_of, answer_at, taken_lines, verdict_on, refusal_on}
use Rattle.rules.specs.Text.{trace_text}
use Rattle.judge.specs.Feed.{Tables, place_in, fresh_tables}
use Rattle.run.specs.Chunk.{going, stopped, read_on, at_input_end}
use Rattle.promises.specs.Fed.{joined}
use Rattle.rules.proofs.First.{zero_takes_all}
use Rattle.promises.proofs.Judged.{after_lines, shows_taken}
use Rattle.promises.proofs.Printed.{printed}
use Rattle.promises.proofs.Reading.{all_read, printed_right, stopped_right}
use Rattle.input.specs.declared.reads.ReadError.{ReadError}
use Rattle.input.specs.declared.reads.ReadError.TheVariants.{Failed, WrongSize, OutOfRange}
use Rattle.input.specs.Reads.{Came, BrokeOff, error_number, input_refusal, Taken}
use Rattle.input.specs.declared.whole.Text.{Text}
use Rattle.input.specs.Whole.{Lent, lent_refusal, text_of, Told, Answered}
use Rattle.input.proofs.Sizes.{only_15}

-- ---- `read_all`

pub came_unique : {m n : ℕ} {t u v : Tables} (x : Came m t u) (y : Came n t v) → x.reads ≡ y.reads → (m ≡ n) × (u ≡ v)
came_unique {t = t} x y e = (
  sym x.counted ∙ ap (λ (rs : List (List ℕ)). length (joined rs)) e ∙ y.counted,
  x.left ∙ ap (λ (rs : List (List ℕ)). at_input_end (read_on t [] rs)) e ∙ sym y.left,
)

pub broke_unique : {t u v : Tables} (x : BrokeOff t u) (y : BrokeOff t v) → x.before.reads ≡ y.before.reads → u ≡ v
broke_unique {t} {u} {v} x y e =
    let p : going u x.rest ≡ going v y.rest = sym x.before.goes_on ∙ ap (λ (rs : List (List ℕ)). read_on t [] rs) e ∙ y.before.goes_on in
    cc

-- the error of a refusal
pub error_of : ℕ → ReadError
error_of n = cond (eqb n 15) WrongSize OutOfRange

-- where something is refused, no reads are asked for: that number, and nothing changed
pub refused_unique : (r : Result ℕ ReadError) (t : Tables) (b : List ℕ) (u : Tables) (c : List ℕ) → Taken r t b u c → 0 < input_refusal t b →
    (r ≡ Err (error_of (input_refusal t b))) × ((u ≡ t) × (c ≡ b))
unfolding error_of
refused_unique (Ok n) t b u c w h = absurd (omega (arith, w.number))
refused_unique (Err Failed) t b u c w h = absurd (omega (arith, w.number))
refused_unique (Err WrongSize) t b u c w h = (rw (← w.number), w.leaves)
refused_unique (Err OutOfRange) t b u c w h = (rw (← w.number), w.leaves)

-- and only there: a function that refuses everything is shut out
pub refused_only : {n : ℕ} (e : ReadError) (t : Tables) (b : List ℕ) (u : Tables) (c : List ℕ) → error_number e ≡ Some n → Taken (Err e) t b u c →
    0 < input_refusal t b
refused_only Failed t b u c p w = absurd cc
refused_only WrongSize t b u c p w = omega (arith, w.number)
refused_only OutOfRange t b u c p w = omega (arith, w.number)

-- a trace of some bytes has a line
one_line : (s : List ℕ) → length (last_line s) ≡ 0 → length s ≡ 0
one_line [] e = refl
one_line (b ∷ s) e = absurd (omega (arith, e))

lines_none : (s : List ℕ) → length (lines_of s) ≡ 0 → length s ≡ 0
unfolding lines_of
lines_none s e =
    ⊎_elim
    (λ h. absurd (omega (arith, rw (cut_whole s h) at e)))
    (λ h. one_line s (rw (none_whole s h, none_rest s h) at e))
    (lt_or_ge (to_byte 10 s) (length s))

-- which is taken or refused
all_taken : (ls : List (List ℕ)) → (refusal_on [] ls).0 ≡ 0 → length (taken_lines [] ls) ≡ length ls
all_taken ls e = ap length (zero_takes_all answer_at ls [] e) ∙ length-reverse ls

-- so it shows in the tables: no bytes that came are dropped, an unfinished last line neither
pub nothing_dropped : {n : ℕ} → Came n fresh_tables fresh_tables → n ≡ 0
unfolding place_in place_of
nothing_dropped {n} c =
    let ls = lines_of (joined c.reads) in
    let fresh : fresh_tables ≡ after_lines ls = c.left ∙ all_read c.reads in
    let both = shows_taken ls in
    let number : (refusal_on [] ls).0 ≡ 0 = sym (ap (λ (v : ℕ × ℕ). v.0) (rw (← fresh) at both.remembers)) in
    let lines : 0 ≡ length (taken_lines [] ls) = ap (λ (p : Place). p.lines) (rw (← fresh) at both.shows.place) in
    sym c.counted ∙ lines_none (joined c.reads) (omega (arith, all_taken ls number, lines))

-- ---- `text_of_input`

pub told_unique : {m n x y : ℕ} {l a b : Lent} (v : Told m x l a) (w : Told n y l b) → v.came.reads ≡ w.came.reads →
    (m ≡ n) × ((x ≡ y) × ((a.tables ≡ b.tables) × (a.output ≡ b.output)))
told_unique {l = l} v w e =
    let c = came_unique v.came w.came e in (
      v.size ∙ ap (λ (rs : List (List ℕ)). length (text_of rs)) e ∙ sym w.size,
      (c.0, (c.1, v.output ∙ ap (λ (rs : List (List ℕ)). written l.output 0 (text_of rs)) e ∙ sym w.output)),
    )

-- the sizes are wrong: 15, and nothing changed
pub wrong_sizes_unique : (r : Result Text ReadError) (l m : Lent) → Answered r l m → 0 < lent_refusal l → (r ≡ Err WrongSize) × (m ≡ l)
wrong_sizes_unique (Ok t) l m w h = absurd (omega (arith, w.number))
wrong_sizes_unique (Err Failed) l m w h = absurd (omega (arith, w.number))
wrong_sizes_unique (Err WrongSize) l m w h = (refl, w.leaves)
wrong_sizes_unique (Err OutOfRange) l m w h = absurd (omega (arith, w.number, only_15 l h))

pub wrong_sizes_only : {n : ℕ} (e : ReadError) (l m : Lent) → error_number e ≡ Some n → Answered (Err e) l m → 0 < lent_refusal l
wrong_sizes_only Failed l m p w = absurd cc
wrong_sizes_only WrongSize l m p w = omega (arith, w.number)
wrong_sizes_only OutOfRange l m p w = omega (arith, w.number)

-- a fresh start after reading is shut out wherever bytes came
pub told_not_fresh : {n bytes : ℕ} {l m : Lent} → Told n bytes l m → m.tables ≡ fresh_tables → bytes ≡ 0
told_not_fresh {bytes = bytes} w e = nothing_dropped (subst (λ (t : Tables). Came bytes fresh_tables t) e w.came)

-- there is always a text
text_some : (ls : List (List ℕ)) → 0 < length (trace_text ls)
unfolding trace_text
text_some ls =
    let h = taken_lines [] ls in
    let v = verdict_on [] ls in
    by_number (eqb v.0 0) (place_of h).scale (span (events_of h)) (sheet_text (sheet (events_of h))) v.0 v.1
  where
    by_number : (b : Bool) (scale span : ℕ) (s : List ℕ) (n l : ℕ) → 0 < length (cond b (accepted_text scale span ++ s) (refused_text n l))
    by_number true scale span s n l = omega (arith, length-append (accepted_text scale span) s, length_accepted scale span)
    by_number false scale span s n l = omega (arith, length_refused n l)

pub told_some : {n bytes : ℕ} {l m : Lent} → Told n bytes l m → 0 < n
told_some w = omega (arith, text_some (lines_of (joined w.came.reads)), w.size)

-- where reading stops before the end of input, it is the text of every trace that begins so
pub told_further : {n bytes : ℕ} {l m : Lent} (w : Told n bytes l m) (t : Tables) → read_on fresh_tables [] w.came.reads ≡ stopped t → (more : List ℕ) →
    m.output ≡ written l.output 0 (trace_text (lines_of (joined w.came.reads ++ more)))
told_further {l = l} w t e more =
    let rs = w.came.reads in
    let same : text_of rs ≡ trace_text (lines_of (joined rs ++ more)) =
    sym (printed_right rs) ∙ ap (λ p. printed (at_input_end p)) e ∙ stopped_right rs t e more in
    w.output ∙ ap (λ (s : List ℕ). written l.output 0 s) same
