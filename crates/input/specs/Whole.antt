-- What the program does but to write the text.
use Rattle.std.specs.Prelude.{◌≡◌, ◌&&◌, cond, List, ℕ, ◌≤◌, eqb, leb, length, take, Option, None, Some, Bool, Result, Ok, Err}
use Rattle.text.specs.Put.{written}
use Rattle.walk.specs.Lines.{lines_of}
use Rattle.rules.specs.Text.{trace_text}
use Rattle.tables.specs.Sized.{is_sized}
use Rattle.judge.specs.Feed.{Tables, tables, fresh_tables}
use Rattle.run.specs.Report.{text_most}
use Rattle.promises.specs.Fed.{joined}
use Rattle.input.specs.Reads.{buffer_size, AllReads, Came, BrokeOff, input_number, Numbered}
use Rattle.input.specs.declared.reads.ReadError.{ReadError}
use Rattle.input.specs.declared.reads.ReadError.TheVariants.{Failed, WrongSize, OutOfRange}
use Rattle.input.specs.declared.whole.Text.{Text}

-- all that is lent
pub record Lent : Type 0 where
  pub tables : Tables
  pub buffer : List ℕ
  pub output : List ℕ

abbrev pub lent : List ℕ → List ℕ → List ℕ → List ℕ → List ℕ → Lent
lent names nums ticks buf out = record { tables = tables names nums ticks; buffer = buf; output = out }

-- the sizes of what is lent, by the five lengths. An output may be longer than the longest text.
unfoldable pub are_sized : ℕ → ℕ → ℕ → ℕ → ℕ → Bool
are_sized names nums ticks buf out = is_sized names nums ticks && (eqb buf buffer_size && leb text_most out)

-- 15: "lent output or table of the wrong size", the buffer's too; else 0
unfoldable pub size_refusal : ℕ → ℕ → ℕ → ℕ → ℕ → ℕ
size_refusal names nums ticks buf out = cond (are_sized names nums ticks buf out) 0 15

abbrev pub lent_refusal : Lent → ℕ
lent_refusal l = size_refusal (length l.tables.names) (length l.tables.nums) (length l.tables.ticks) (length l.buffer) (length l.output)

-- what is printed of the reads of a trace
abbrev pub text_of : List (List ℕ) → List ℕ
text_of reads = trace_text (lines_of (joined reads))

-- for some reads, of so many bytes together, the tables are theirs, and their text, of n bytes, is at the front of the output, the rest unchanged
pub record Told (n bytes : ℕ) (l m : Lent) : Type 0 where
  pub came : Came bytes fresh_tables m.tables
  pub size : n ≡ length (text_of came.reads)
  pub output : m.output ≡ written l.output 0 (text_of came.reads)

-- from what was lent, l, to what is left there, m; what reads leave in the buffer is the world's
abbrev pub TextLeaves : Result Text ReadError → Lent → Lent → Type 0
TextLeaves (Ok t) l m = Told t.length t.bytes l m
TextLeaves (Err Failed) l m = BrokeOff fresh_tables m.tables × (m.output ≡ l.output)
TextLeaves (Err WrongSize) l m = m ≡ l
TextLeaves (Err OutOfRange) l m = m ≡ l

-- the number is 0 where there is a text; the trace's verdict is its first line
pub record Answered (r : Result Text ReadError) (l m : Lent) : Type 0 where
  pub number : Numbered (input_number r) (lent_refusal l)
  pub leaves : TextLeaves r l m

-- ---- what may be written

-- the first n bytes are the text of some trace, however it came in reads
pub record IsText (n : ℕ) (s : List ℕ) : Type 0 where
  pub reads : List (List ℕ)
  pub each : AllReads reads
  pub text : take n s ≡ text_of reads
  pub fits : n ≤ length s
