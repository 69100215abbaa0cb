-- What reading leaves. Which bytes a read gives is the world's: here they are some bytes.
use Rattle.std.specs.Prelude.{◌≡◌, cond, List, [], ◌∷◌, ℕ, ◌+◌, ◌≤◌, ◌<◌, eqb, length, take, get_or, Option, None, Some, ◌⊎◌, Result, Ok, Err}
use Rattle.ranges.specs.Range.{table_answer}
use Rattle.judge.specs.Feed.{Tables}
use Rattle.run.specs.Chunk.{carried_most, Progress, going, stopped, read_on, at_input_end}
use Rattle.promises.specs.Fed.{joined}
use Rattle.input.specs.declared.reads.Step.{Step}
use Rattle.input.specs.declared.reads.ReadError.{ReadError}
use Rattle.input.specs.declared.reads.ReadError.TheVariants.{Failed, WrongSize, OutOfRange}

-- "chunks at most 64 KiB"
abbrev pub buffer_size : ℕ
buffer_size = 65536

-- ---- one read

-- n bytes into the buffer b behind its first `have` bytes leave the buffer c
pub record Filled (n have : ℕ) (b c : List ℕ) : Type 0 where
  pub room : have + n ≤ length c
  pub kept : take have c ≡ take have b

abbrev pub OneFill : {E : Type 0} → Result ℕ E → ℕ → List ℕ → List ℕ → Type 0
OneFill (Ok n) have b c = Filled n have b c
OneFill (Err e) have b c = Unit {0}

-- a read of nothing would be the end of input, and none has more than the buffer has room for
pub record ARead (have : ℕ) (r : List ℕ) : Type 0 where
  pub some_bytes : 0 < length r
  pub room : have + length r ≤ buffer_size
  pub bytes : (i : ℕ) → i < length r → get_or r i 0 < 256

-- some read of n bytes leads from the tables t, with the first `have` bytes of the buffer b carried over, to p
pub record OneMore (n have : ℕ) (t : Tables) (b : List ℕ) (p : Progress) : Type 0 where
  pub read : List ℕ
  pub each : ARead have read
  pub counted : length read ≡ n
  pub comes_to : read_on t (take have b) (read ∷ []) ≡ p

-- reading ends, with the tables u: after one more read, of n bytes, of which a line was refused; or, with none, at the end of input
abbrev pub EndsWith : ℕ → ℕ → Tables → List ℕ → Tables → Type 0
EndsWith n have t b u = OneMore n have t b (stopped u) ⊎ ((n ≡ 0) × (u ≡ at_input_end (going t (take have b))))

-- by how many are carried over: the tables u and the buffer c after the turn
abbrev pub Turned : Option ℕ → ℕ → ℕ → Tables → List ℕ → Tables → List ℕ → Type 0
Turned (Some left) n have t b u c = (left ≤ carried_most) × OneMore n have t b (going u (take left c))
Turned None n have t b u c = EndsWith n have t b u

-- every error is that of the read
abbrev pub Stepped : Result Step ReadError → ℕ → Tables → List ℕ → Tables → List ℕ → Type 0
Stepped (Ok s) have t b u c = Turned s.left s.bytes have t b u c
Stepped (Err e) have t b u c = (e ≡ Failed) × (u ≡ t)

-- ---- all reads, THE OLDEST FIRST

abbrev pub AllReads : List (List ℕ) → Type 0
AllReads [] = Unit {0}
AllReads (r ∷ rs) = ARead 0 r × AllReads rs

-- some reads, of n bytes together, lead from the tables t to u, and reading goes on with the rest carried over
pub record ReadSoFar (n : ℕ) (t u : Tables) (rest : List ℕ) : Type 0 where
  pub reads : List (List ℕ)
  pub each : AllReads reads
  pub counted : length (joined reads) ≡ n
  pub goes_on : read_on t [] reads ≡ going u rest

-- some reads, of n bytes together, lead from the tables t to u at the end of input, or where a line was refused
pub record Came (n : ℕ) (t u : Tables) : Type 0 where
  pub reads : List (List ℕ)
  pub each : AllReads reads
  pub counted : length (joined reads) ≡ n
  pub left : u ≡ at_input_end (read_on t [] reads)

-- reading broke off: the tables u are those of the reads before the one that failed
pub record BrokeOff (t u : Tables) : Type 0 where
  pub bytes : ℕ
  pub rest : List ℕ
  pub before : ReadSoFar bytes t u rest

-- ---- the answer

-- 15: "lent output or table of the wrong size", the buffer's too; 16 where the tables hold something out of its range; else 0
unfoldable pub input_refusal : Tables → List ℕ → ℕ
input_refusal t b = cond (eqb (length b) buffer_size) (table_answer t.names t.nums t.ticks) 15

-- Document 01's number of each error. A read that failed has none: 01 does not speak of an input that cannot be read.
abbrev pub error_number : ReadError → Option ℕ
error_number Failed = None
error_number WrongSize = Some 15
error_number OutOfRange = Some 16

-- and of each answer. 0 says that the input was read; what the trace's verdict is stands in the tables.
abbrev pub input_number : {A : Type 0} → Result A ReadError → Option ℕ
input_number (Ok a) = Some 0
input_number (Err e) = error_number e

-- a number is that of the refusal, 0 where nothing is refused; a read can only fail where nothing is
abbrev pub Numbered : Option ℕ → ℕ → Type 0
Numbered (Some n) refusal = n ≡ refusal
Numbered None refusal = refusal ≡ 0

-- from the tables t and the buffer b to the tables u and the buffer c; what reads leave in the buffer is the world's
abbrev pub ReadLeaves : Result ℕ ReadError → Tables → List ℕ → Tables → List ℕ → Type 0
ReadLeaves (Ok n) t b u c = Came n t u
ReadLeaves (Err Failed) t b u c = BrokeOff t u
ReadLeaves (Err WrongSize) t b u c = (u ≡ t) × (c ≡ b)
ReadLeaves (Err OutOfRange) t b u c = (u ≡ t) × (c ≡ b)

pub record Taken (r : Result ℕ ReadError) (t : Tables) (b : List ℕ) (u : Tables) (c : List ℕ) : Type 0 where
  pub number : Numbered (input_number r) (input_refusal t b)
  pub leaves : ReadLeaves r t b u c
