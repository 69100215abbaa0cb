-- A container of traces: for each a header `trace LABEL LENGTH`, byte 10, as many bytes as the header says, and byte 10; nothing between two of
-- them and nothing after the last.
use Rattle.std.specs.Prelude.{cond, List, ℕ, zero, suc, ◌+◌, ◌-◌, eqb, ltb, length, take, drop, get_or, None, Some, Option, Result, Ok, Err}
use Rattle.text.specs.Literal.{bytes}
use Rattle.text.specs.Bytes.{starts_with, find_from}
use Rattle.text.specs.Number.{number_of}
use Rattle.bundle.specs.declared.container.Entry.{Entry}
use Rattle.bundle.specs.declared.container.Broken.{Broken}

-- the blank after the label, which is the first from index 6 on
abbrev pub label_end : List ℕ → ℕ
label_end header = find_from 32 header 6

-- the length that a header gives
unfoldable pub length_in : List ℕ → Option ℕ
length_in header =
    cond (starts_with header (bytes "trace ")) (cond (ltb (label_end header) (length header)) (number_of (drop (label_end header + 1) header) 4294967295) None) None

-- A header that ends at an index, by its length: the trace is followed by a byte 10, and past the end of the bytes there is none.
abbrev pub header_entry : List ℕ → ℕ → Option ℕ → Option Entry
header_entry s end (Some n) = cond (eqb (get_or s (end + 1 + n) 0) 10) (Some (record { end = end; size = n })) None
header_entry s end None = None

-- what stands from an index on: a trace with the end of its header and its length, or nothing that can be told
unfoldable pub entry_from : List ℕ → ℕ → Option Entry
entry_from s at = let end = find_from 10 s at in cond (ltb end (length s)) (header_entry s end (length_in (take (end - at) (drop at s)))) None

-- The n traces before an index and those from there on. Each takes two bytes at least, so that there are no more of them than bytes; the first
-- argument counts these down.
abbrev pub go_on : Option Entry → Result ℕ Broken → (ℕ → Result ℕ Broken) → Result ℕ Broken
go_on (Some e) broken next = next (e.end + e.size + 2)
go_on None broken next = broken

unfoldable pub end_from : ℕ → List ℕ → ℕ → ℕ → Result ℕ Broken
end_from zero s at n = Ok n
end_from (suc k) s at n = cond (ltb at (length s)) (go_on (entry_from s at) (Err (record { traces = n; at = at })) (λ i. end_from k s i (n + 1))) (Ok n)

-- how a container ends: whole after so many traces, or broken after so many, at the index from which no trace can be told
unfoldable pub container_end : List ℕ → Result ℕ Broken
container_end s = end_from (length s) s 0 0
