-- How tight the contracts of the judge are: wrong answers that they shut out. A function that never answers 0, or always, is shut out whatever else it
-- does. That there is no second answer is among the laws of `promises`.
use Rattle.std.proofs.Common.{◌≡◌, ℕ, eqb, List, [], ◌∷◌, ◌++◌, length, refl, ap, ◌∙◌, arith}
use Rattle.text.specs.Literal.{bytes}
use Rattle.text.specs.Bytes.{same_bytes, starts_with}
use Rattle.text.specs.Pieces.{pieces, ended, closed}
use Rattle.text.proofs.Tight.{ShutsOut, shut_out}
use Rattle.walk.specs.Lines.{line_text, whole_lines, used_up}
use Rattle.line.specs.Parameter.{is_version, is_version_line, is_comment, parameter_reading}
use Rattle.line.specs.Reading.{has_break, is_event_line, read_line}
use Rattle.steps.specs.PlaceCode.{answer_by_reading}
use Rattle.tables.specs.Entry.{line_count}
use Rattle.ranges.proofs.FreshTables.{fresh_answer}
use Rattle.judge.specs.Feed.{Tables, After, place_in, counted, judged_in_place, judged_line, fed_line, judged_lines, AfterChunk, fed_chunk, fresh_tables}

-- ---- `feed`

abbrev feeds : Tables × List ℕ → After
feeds (t, l) = fed_line t l

-- the version line, first of all, is taken
version_taken : (fed_line fresh_tables (bytes "#version 2.2.0")).answer ≡ 0
unfolding fed_line judged_line judged_in_place place_in answer_by_reading read_line has_break is_event_line parameter_reading is_version same_bytes
version_taken = rw fresh_answer

-- a comment, first of all, is not
comment_refused : (fed_line fresh_tables (bytes "# ")).answer ≡ 2
unfolding fed_line judged_line judged_in_place place_in answer_by_reading read_line has_break is_event_line parameter_reading is_version
    is_version_line is_comment starts_with same_bytes
comment_refused = rw fresh_answer

pub feed_not_refusing : (g : Tables × List ℕ → After) → ((x : Tables × List ℕ) → (g x).answer ≡ 0 → ⊥) → ShutsOut feeds g
feed_not_refusing g h =
    let x : Tables × List ℕ = (fresh_tables, bytes "#version 2.2.0") in
    record { input = x; breaks = λ e. h x (ap (λ (a : After). a.answer) e ∙ version_taken) }

pub feed_not_accepting : (g : Tables × List ℕ → After) → ((x : Tables × List ℕ) → (g x).answer ≡ 0) → ShutsOut feeds g
feed_not_accepting g h =
    let x : Tables × List ℕ = (fresh_tables, bytes "# ") in
    record { input = x; breaks = λ e. omega (arith, h x, ap (λ (a : After). a.answer) e, comment_refused) }

-- ---- `feed_chunk`

abbrev feeds_chunk : Tables × List ℕ → AfterChunk
feeds_chunk (t, c) = fed_chunk t c

-- an unfinished line is not used up
pub chunk_not_used_up :
    ShutsOut feeds_chunk (λ (t, c). record { fed = record { answer = (fed_chunk t c).fed.answer; used = length c }; left = (fed_chunk t c).left })
unfolding fed_chunk used_up closed ended pieces
chunk_not_used_up = shut_out (λ x. eqb x.fed.used 0) (fresh_tables, bytes "#version") (rw fresh_answer) refl

-- a whole line, the version, is counted
abbrev one_line : List ℕ
one_line = bytes "#version 2.2.0" ++ 10 ∷ []

line_counted : line_count (fed_chunk fresh_tables one_line).left.nums ≡ 1
unfolding fed_chunk judged_lines whole_lines line_text ended pieces judged_line judged_in_place place_in answer_by_reading counted read_line has_break is_event_line
    parameter_reading is_version same_bytes
line_counted = rw fresh_answer

-- it feeds nothing: the fresh tables are left as they were, whatever it says
pub chunk_not_idle : (g : Tables × List ℕ → AfterChunk) → (g (fresh_tables, one_line)).left ≡ fresh_tables → ShutsOut feeds_chunk g
chunk_not_idle g h =
    record {
      input = (fresh_tables, one_line);
      breaks = λ e. omega (arith, ap (λ (t : Tables). line_count t.nums) h, ap (λ (x : AfterChunk). line_count x.left.nums) e, line_counted);
    }
