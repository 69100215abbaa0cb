-- A trace chunk by chunk: the whole lines are fed, and the unfinished one is carried over to the front of the buffer.
use Rattle.std.specs.Prelude.{cond, List, [], ◌∷◌, ◌++◌, ℕ, ◌+◌, eqb, ltb, length, take, None, Some, Option}
use Rattle.text.specs.Put.{written}
use Rattle.walk.specs.Lines.{rest_of}
use Rattle.line.specs.Reading.{line_most}
use Rattle.rules.specs.Lists.{if_zero}
use Rattle.judge.specs.Feed.{Tables, tables, fed_line, fed_chunk}

-- the tables and the buffer after a turn
pub record Turned : Type 0 where
  pub turn : Option ℕ
  pub left : Tables
  pub buffer : List ℕ

abbrev pub turned : Option ℕ → List ℕ → List ℕ → List ℕ → List ℕ → Turned
turned r names nums ticks buf = record { turn = r; left = tables names nums ticks; buffer = buf }

-- the longest unfinished line that is kept: one that is read by its text, with the byte 13 of its end
abbrev pub carried_most : ℕ
carried_most = line_most + 1

-- A longer rest is fed as it stands, which is refusal 1, and is not kept in memory.
unfoldable pub carried_over : Tables → List ℕ → List ℕ → Turned
carried_over t rest buf =
    cond (ltb carried_most (length rest)) (record { turn = None; left = (fed_line t rest).left; buffer = buf })
    (record { turn = Some (length rest); left = t; buffer = written buf 0 rest })

-- The first n bytes of the buffer are what was carried over and what was read. After a refusal reading stops: "Further lines get that verdict again."
unfoldable pub chunk_taken : Tables → List ℕ → ℕ → Turned
chunk_taken t buf n =
    if_zero (fed_chunk t (take n buf)).fed.answer (carried_over (fed_chunk t (take n buf)).left (rest_of (take n buf)) buf)
    (record { turn = None; left = (fed_chunk t (take n buf)).left; buffer = buf })

-- "The last line may lack its end": at the end of input what was carried over is one
unfoldable pub last_taken : Tables → List ℕ → ℕ → Tables
last_taken t buf n = cond (eqb n 0) t (fed_line t (take n buf)).left

-- ---- all reads of a trace, THE OLDEST FIRST, and the end of input

-- reading goes on with what was carried over, or has stopped
pub data Progress : Type 0 where
  going : Tables → List ℕ → Progress
  stopped : Tables → Progress

unfoldable pub read_on : Tables → List ℕ → List (List ℕ) → Progress
read_on t rest [] = going t rest
read_on t rest (r ∷ rs) =
    let fed = fed_chunk t (rest ++ r) in
    if_zero fed.fed.answer
    (cond (ltb carried_most (length (rest_of (rest ++ r)))) (stopped (fed_line fed.left (rest_of (rest ++ r))).left) (read_on fed.left (rest_of (rest ++ r)) rs))
    (stopped fed.left)

abbrev pub at_input_end : Progress → Tables
at_input_end (going t rest) = last_taken t rest (length rest)
at_input_end (stopped t) = t
