-- The laws of the judge from a fresh start, for all lines. 1: the verdict that the tables tell is that of the list of lines alone. 2: the tables show the
-- lines taken. 4: no line ever leads to 16. 5: line by line, by chunks cut at line ends, and the whole trace at once end in the same tables.
use mathlib.Core.Path.{◌≡◌, refl, sym, ap, ◌∙◌}
use mathlib.Core.Bool.{true}
use mathlib.Core.List.{List, [], ◌∷◌, ◌++◌, append_assoc, append-nil}
use Prim.Native.Nat.{ℕ}
use lib.ListN.{length}
use Rattle.text.specs.Pieces.{pieces, ended}
use Rattle.walk.specs.Lines.{whole_lines, rest_of, last_line, lines_of}
use Rattle.walk.proofs.Chunks.{whole_anew, rest_drop}
use Rattle.rules.specs.Trace.{taken_lines, refusal_on, verdict_on}
use Rattle.rules.proofs.Traces.{nothing_kept, taken_sound}
use Rattle.tables.specs.Sized.{is_sized}
use Rattle.tables.specs.Fresh.{cleared_of}
use Rattle.ranges.specs.Range.{table_answer}
use Rattle.ranges.proofs.FreshTables.{fresh_answer}
use Rattle.judge.specs.Feed.{Tables, After, fed_line, judged_lines, fed_chunk, fresh_tables}
use Rattle.judge.proofs.Feeds.{judged_fed}
use Rattle.judge.proofs.Traces.{judged_lines_append}
use Rattle.outcome.specs.AtEnd.{verdict_in}
use Rattle.outcome.specs.Outcome.{begun, rest_fed, trace_fed}
use Rattle.promises.specs.Fed.{all_fed, chunks_fed, joined, AtLineEnds}
use Rattle.promises.proofs.Traces.{Followed, followed}
use Rattle.promises.proofs.Limits.{refusal_small, shows_valid}
use Rattle.promises.proofs.Fresh.{fresh_shows}
use Rattle.promises.proofs.Verdicts.{Tells, now_tells}

-- the tables after lines from a fresh start
abbrev pub after_lines : List (List ℕ) → Tables
after_lines ls = judged_lines fresh_tables ls

-- ---- 2: what the tables show

pub shows_taken : (ls : List (List ℕ)) → Followed [] ls (after_lines ls)
shows_taken ls = followed ls [] nothing_kept fresh_tables fresh_shows refl refl

-- ---- 4: never 16

pub never_16 : (ls : List (List ℕ)) → table_answer (after_lines ls).names (after_lines ls).nums (after_lines ls).ticks ≡ 0
never_16 ls =
    let b = shows_taken ls in
    let r = refusal_small ls [] nothing_kept in
    shows_valid (taken_lines [] ls) (taken_sound ls).kept (after_lines ls) b.shows
    (rw (ap (λ (p : ℕ × ℕ). p.0) b.remembers) r.0)
    (rw (ap (λ (p : ℕ × ℕ). p.1) b.remembers) r.1)

-- ---- 1: the verdict

pub lines_tell : (ls : List (List ℕ)) → Tells (verdict_in (after_lines ls).nums (after_lines ls).ticks) (verdict_on [] ls) (taken_lines [] ls)
unfolding verdict_on
lines_tell ls = now_tells (taken_lines [] ls) (taken_sound ls).kept (after_lines ls) (refusal_on [] ls) (shows_taken ls)

-- ---- 5: however the lines come

-- line by line, the tables tested at each: they are in range, so the line is judged
pub fed_one : (ks : List (List ℕ)) (l : List ℕ) → (fed_line (after_lines ks) l).left ≡ after_lines (ks ++ l ∷ [])
unfolding judged_lines
fed_one ks l =
    ap (λ (x : After). x.left) (sym (judged_fed (after_lines ks) l (sym (never_16 ks)) refl refl)) ∙ sym (judged_lines_append fresh_tables ks (l ∷ []))

from_fed : (ls ks : List (List ℕ)) → all_fed (after_lines ks) ls ≡ after_lines (ks ++ ls)
unfolding all_fed judged_lines
from_fed [] ks = ap after_lines (sym (append-nil ks))
from_fed (l ∷ ls) ks =
    ap (λ (u : Tables). all_fed u ls) (fed_one ks l)
    ∙ from_fed ls (ks ++ (l ∷ []))
    ∙ ap after_lines (append_assoc ks (l ∷ []) ls)

pub line_by_line : (ls : List (List ℕ)) → all_fed fresh_tables ls ≡ after_lines ls
unfolding judged_lines
line_by_line ls = from_fed ls []

-- chunk by chunk
fed_chunk_lem : (t : Tables) (c : List ℕ) → table_answer t.names t.nums t.ticks ≡ 0 → (fed_chunk t c).left ≡ judged_lines t (whole_lines c)
unfolding fed_chunk
fed_chunk_lem t c q = rw q

nothing_whole : whole_lines [] ≡ []
unfolding whole_lines ended pieces
nothing_whole = refl

from_chunks : (cs ks : List (List ℕ)) → AtLineEnds cs → chunks_fed (after_lines ks) cs ≡ after_lines (ks ++ whole_lines (joined cs))
unfolding chunks_fed
from_chunks [] ks a = ap after_lines (sym (append-nil ks) ∙ ap (λ (ls : List (List ℕ)). ks ++ ls) (sym nothing_whole))
from_chunks (c ∷ cs) ks a =
    ap (λ (u : Tables). chunks_fed u cs) (fed_chunk_lem (after_lines ks) c (never_16 ks) ∙ sym (judged_lines_append fresh_tables ks (whole_lines c)))
    ∙ from_chunks cs (ks ++ whole_lines c) a.1
    ∙ ap after_lines (append_assoc ks (whole_lines c) (whole_lines (joined cs)) ∙ ap (λ (ls : List (List ℕ)). ks ++ ls) (sym (whole_anew c (joined cs) a.0)))

pub chunk_by_chunk : (cs : List (List ℕ)) → AtLineEnds cs → chunks_fed fresh_tables cs ≡ after_lines (whole_lines (joined cs))
unfolding judged_lines
chunk_by_chunk cs a = from_chunks cs [] a

-- and the whole trace at once, in tables of the right sizes, whatever they held
pub rest_fed_lem : (ks : List (List ℕ)) (r : List ℕ) → rest_fed (after_lines ks) r ≡ after_lines (ks ++ last_line r)
rest_fed_lem ks [] = ap after_lines (sym (append-nil ks))
rest_fed_lem ks (x ∷ r) = fed_one ks (x ∷ r)

pub trace_fed_lem : (t : Tables) → is_sized (length t.names) (length t.nums) (length t.ticks) ≡ true → (trace : List ℕ) →
    trace_fed (begun t) trace ≡ after_lines (lines_of trace)
unfolding trace_fed begun cleared_of fed_chunk lines_of
trace_fed_lem t fits trace = rw (fits, fresh_answer, ← (rest_drop trace)) (rest_fed_lem (whole_lines trace) (rest_of trace))
