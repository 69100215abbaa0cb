-- The text of what came in reads is at the front of the output, and it always fits.
use mathlib.Core.Path.{◌≡◌, refl, sym, ap, subst, ◌∙◌}
use mathlib.Core.List.{List}
use Rattle.std.specs.Prelude.{Some, Result, Ok, Err}
use Prim.Native.Nat.{ℕ, ◌≤◌}
use native.Mathlib.Omega.{arith}
use lib.ListN.{length}
use borrow.Author.Tests.{le-leb}
use Rattle.text.specs.Put.{written}
use Rattle.text.proofs.Writes.{length_written, take_written}
use Rattle.walk.specs.Lines.{lines_of}
use Rattle.tables.specs.Sized.{Sized}
use Rattle.tables.specs.Fresh.{Cleared, cleared_of}
use Rattle.tables.proofs.Sizes.{sizes_mean}
use Rattle.judge.specs.Feed.{Tables, tables, fresh_tables}
use Rattle.run.specs.Report.{Reported, reported, text_printed, report_written, text_most}
use Rattle.promises.specs.Fed.{joined}
use Rattle.promises.proofs.Reading.{written_right}
use Rattle.promises.proofs.Printed.{text_fits}
use Rattle.input.specs.declared.reads.ReadError.{ReadError}
use Rattle.input.specs.declared.reads.ReadError.TheVariants.{Failed, WrongSize, OutOfRange}
use Rattle.input.specs.Reads.{buffer_size, Came, error_number, Taken}
use Rattle.input.specs.declared.whole.Text.{Text}
use Rattle.input.specs.Whole.{Lent, lent, lent_refusal, text_of, Told, Answered, IsText}
use Rattle.input.proofs.Sizes.{fresh_taken, RightSizes, right_sizes}

-- ---- the start: tables of the right sizes are fresh

abbrev left : Cleared → Tables
left x = tables x.names x.nums x.ticks

pub fresh_start : {names nums ticks : List ℕ} {x : Cleared} → Sized names nums ticks → x ≡ cleared_of names nums ticks → left x ≡ fresh_tables
unfolding cleared_of
fresh_start {names} {nums} {ticks} s e = ap left e ∙ rw ((sizes_mean names nums ticks).shows s)

-- ---- what came of reading from there, by its answer

module _ {t : Tables} (b : List ℕ) (u : Tables) (c : List ℕ) (start : t ≡ fresh_tables) {i : Result ℕ ReadError} (w : Taken i t b u c) where
  from_fresh : Taken i fresh_tables b u c
  from_fresh = subst (λ (x : Tables). Taken i x b u c) start w

  pub all_came : {n : ℕ} → i ≡ Ok n → Came n fresh_tables u
  all_came e = rw e at from_fresh.leaves

  -- fresh tables are in range, and the buffer has its size, so that nothing is refused: whatever error there is, a read failed
  pub none_refused : length b ≡ buffer_size → (e : ReadError) → i ≡ Err e → e ≡ Failed
  none_refused sized e q = by_error e (subst (λ (x : Result ℕ ReadError). Taken x fresh_tables b u c) q from_fresh)
    where
      by_error : (e : ReadError) → Taken (Err e) fresh_tables b u c → e ≡ Failed
      by_error Failed v = refl
      by_error WrongSize v = absurd (omega (arith, v.number, fresh_taken b sized))
      by_error OutOfRange v = absurd (omega (arith, v.number, fresh_taken b sized))

  -- so it is answered
  pub not_read : {e : ReadError} {l m : Lent} → length b ≡ buffer_size → lent_refusal l ≡ 0 → m.tables ≡ u → m.output ≡ l.output → i ≡ Err e → Answered (Err e) l m
  not_read {e} {l} {m} sized right same out q = by_error e (subst (λ (x : Result ℕ ReadError). Taken x fresh_tables b u c) q from_fresh)
    where
      by_error : (e : ReadError) → Taken (Err e) fresh_tables b u c → Answered (Err e) l m
      by_error Failed v = record { number = right; leaves = (rw same v.leaves, out) }
      by_error WrongSize v = absurd (omega (arith, v.number, fresh_taken b sized))
      by_error OutOfRange v = absurd (omega (arith, v.number, fresh_taken b sized))

-- ---- the text

module _ {bytes : ℕ} {names nums ticks : List ℕ} (came : Came bytes fresh_tables (tables names nums ticks)) (out : List ℕ) (room : text_most ≤ length out)
    {r : Result ℕ ℕ} {m : List ℕ} (e : reported r m ≡ report_written names nums ticks out) where
  abbrev text : List ℕ
  text = text_of came.reads

  all_written : reported r m ≡ reported (Ok (length text)) (written out 0 text)
  unfolding text_printed
  all_written =
      let fits : length text ≤ length out = omega (arith, text_fits (lines_of (joined came.reads))) in
      e
      ∙ ap (λ (u : Tables). report_written u.names u.nums u.ticks out) came.left
      ∙ written_right came.reads out
      ∙ rw (le-leb (length text) (length out) fits)

  pub told : {n : ℕ} {l : Lent} {b : List ℕ} → l.output ≡ out → r ≡ Ok n → Told n bytes l (lent names nums ticks b m)
  told {n} q p =
      let same : Ok n ≡ Ok (length text) = sym p ∙ ap (λ (x : Reported). x.answer) all_written in
      record {
        came = came;
        size = cc;
        output = ap (λ (x : Reported). x.output) all_written ∙ ap (λ (o : List ℕ). written o 0 text) (sym q);
      }

  -- never "too short"
  pub always_fits : {n : ℕ} → r ≡ Err n → ⊥
  always_fits {n} q =
      let p : Err n ≡ Ok (length text) = sym q ∙ ap (λ (x : Reported). x.answer) all_written in
      let z : ◌≡◌ {A = ℕ} 0 1 = cc in
      omega arith

-- ---- the answer

pub answered_text : {l m : Lent} {n bytes : ℕ} → lent_refusal l ≡ 0 → Told n bytes l m → Answered (Ok (record { length = n; bytes = bytes })) l m
answered_text right w = record { number = sym right; leaves = w }

-- ---- what may be written

told_text : {n bytes : ℕ} {l m : Lent} → text_most ≤ length l.output → Told n bytes l m → IsText n m.output
told_text {l = l} room w =
    let text = text_of w.came.reads in
    let short : length text ≤ length l.output = omega (arith, text_fits (lines_of (joined w.came.reads))) in
    record {
      reads = w.came.reads;
      each = w.came.each;
      text = rw (w.size, w.output) (take_written l.output text short);
      fits = rw (w.size, w.output) (omega (arith, short, length_written l.output 0 text));
    }

-- by the answer, where what was lent has the right sizes
module _ (l m : Lent) (sizes : RightSizes l) {a : Result Text ReadError} (w : Answered a l m) where
  pub text_told : {t : Text} → a ≡ Ok t → IsText t.length m.output
  text_told {t} e = told_text {n = t.length} {bytes = t.bytes} sizes.1.1 (rw e at w.leaves)

  -- only a read can have failed
  pub sizes_taken : {e : ReadError} {n : ℕ} → error_number e ≡ Some n → a ≡ Err e → ⊥
  sizes_taken {e} {n} p q = by_error e p (subst (λ (x : Result Text ReadError). Answered x l m) q w)
    where
      by_error : (e : ReadError) → error_number e ≡ Some n → Answered (Err e) l m → ⊥
      by_error Failed p v = cc
      by_error WrongSize p v = omega (arith, v.number, right_sizes l sizes)
      by_error OutOfRange p v = omega (arith, v.number, right_sizes l sizes)
