-- DEMAND 1, over any bytes, any record, any tables and any output, also tables that no trace leads to: every call gives one of its numbers of document 01's
-- table (promises/specs/Answers); a refused line changes no entry but those of the remembered verdict, and many lines no other past those that are taken; 15
-- and 16 write nothing; and a refused writing leaves the output as it was. `demand_1` has it all. The contracts say that the calls return what is named here.
use mathlib.Core.Path.{◌≡◌}
use mathlib.Core.Bool.{true, false}
use mathlib.Core.List.{List}
use Prim.Native.Nat.{ℕ}
use lib.ListN.{length}
use Rattle.walk.specs.Lines.{whole_lines}
use Rattle.line.specs.declared.event.Event.{Event as ReadEvent}
use Rattle.line.specs.Reading.{read_line, answer_of}
use Rattle.line.specs.Writing.{write_line, written_answer}
use Rattle.line.proofs.Outputs.{writer_answers}
use Rattle.rules.specs.Lists.{member}
use Rattle.rules.specs.Event.{Event}
use Rattle.tables.specs.Sized.{is_sized}
use Rattle.tables.specs.Fresh.{cleared, cleared_of}
use Rattle.tables.proofs.Zeros.{clear_kept}
use Rattle.decide.specs.Decide.{plan_answer, decided}
use Rattle.judge.specs.Feed.{Tables, judged_lines, fed_line, fed_chunk}
use Rattle.outcome.specs.declared.now.Outcome.{Outcome}
use Rattle.outcome.specs.Outcome.{asked, refused_by, outcome_in, trace_outcome}
use Rattle.run.specs.Report.{printed_answer, outcome_printed, report_written}
use Rattle.promises.specs.Answers.{read_answers, write_answers, decide_answers, fresh_answers, feed_answers, trace_answers, print_answers, report_answers}
use Rattle.promises.specs.Answers.{write_nothing}
use Rattle.promises.proofs.Refused.{OnlyVerdict, refused_spares, StopsAfter}
use Rattle.promises.proofs.Outcomes.{wrong_sizes}
use Rattle.promises.proofs.Calls.{reads, write_kept, freshens, decides, feeds, feed_still, chunks, chunk_still, chunk_stops, tells, tell_still}
use Rattle.promises.proofs.Calls.{traces, trace_still, prints, reports}

pub record Demand1 : Type 0 where
  -- any bytes as a line
  pub read_gives : (line : List ℕ) → member (answer_of (read_line line)) read_answers ≡ true
  -- any record, any output
  pub write_gives : (e : ReadEvent) (source target note out : List ℕ) → member (written_answer (write_line e source target note out).answer) write_answers ≡ true
  pub write_spares : (e : ReadEvent) (source target note out : List ℕ) → (written_answer (write_line e source target note out).answer ≡ 0 → ⊥) →
      (write_line e source target note out).output ≡ out
  -- any tables, and any event against them
  pub fresh_gives : (names nums ticks : List ℕ) → member (cleared_of names nums ticks).answer fresh_answers ≡ true
  pub fresh_spares : (names nums ticks : List ℕ) → (cleared_of names nums ticks).answer ≡ 15 → cleared_of names nums ticks ≡ cleared 15 names nums ticks
  pub decide_gives : (names nums ticks : List ℕ) (e : Event) → member (plan_answer (decided names nums ticks e)) decide_answers ≡ true
  -- any tables, any bytes as a line
  pub feed_gives : (t : Tables) (line : List ℕ) → member (fed_line t line).answer feed_answers ≡ true
  pub feed_spares : (t : Tables) (line : List ℕ) → ((fed_line t line).answer ≡ 0 → ⊥) → OnlyVerdict t (fed_line t line).left
  pub feed_idle : (t : Tables) (line : List ℕ) → member (fed_line t line).answer write_nothing ≡ true → (fed_line t line).left ≡ t
  -- any bytes as a chunk
  pub chunk_gives : (t : Tables) (chunk : List ℕ) → member (fed_chunk t chunk).fed.answer feed_answers ≡ true
  pub chunk_spares : (t : Tables) (chunk : List ℕ) → member (fed_chunk t chunk).fed.answer write_nothing ≡ false →
      ((fed_chunk t chunk).left ≡ judged_lines t (whole_lines chunk)) × StopsAfter t (whole_lines chunk)
  pub chunk_idle : (t : Tables) (chunk : List ℕ) → member (fed_chunk t chunk).fed.answer write_nothing ≡ true → (fed_chunk t chunk).left ≡ t
  -- any tables, any output: the one question, to which no table is lent to be changed
  pub outcome_gives : (t : Tables) (out : List ℕ) → member (outcome_in t out).outcome.verdict.number feed_answers ≡ true
  pub outcome_spares : (t : Tables) (out : List ℕ) → member (outcome_in t out).outcome.verdict.number write_nothing ≡ true → (outcome_in t out).output ≡ out
  -- any bytes as a trace
  pub trace_gives : (t : Tables) (trace out : List ℕ) → member (trace_outcome t trace out).told.outcome.verdict.number trace_answers ≡ true
  pub trace_spares : (t : Tables) (trace out : List ℕ) → (trace_outcome t trace out).told.outcome.verdict.number ≡ 15 →
      (trace_outcome t trace out).told.output ≡ out
  pub trace_idle : (t : Tables) → is_sized (length t.names) (length t.nums) (length t.ticks) ≡ false → (trace out : List ℕ) →
      trace_outcome t trace out ≡ record { told = asked (refused_by 15) out; left = t }
  -- any outcome, any bytes as its sheet; any tables
  pub print_gives : (o : Outcome) (sheet out : List ℕ) → member (printed_answer (outcome_printed o sheet out).answer) print_answers ≡ true
  pub print_spares : (o : Outcome) (sheet out : List ℕ) → (printed_answer (outcome_printed o sheet out).answer ≡ 0 → ⊥) → (outcome_printed o sheet out).output ≡ out
  pub report_gives : (names nums ticks out : List ℕ) → member (printed_answer (report_written names nums ticks out).answer) report_answers ≡ true
  pub report_spares : (names nums ticks out : List ℕ) → (printed_answer (report_written names nums ticks out).answer ≡ 0 → ⊥) →
      (report_written names nums ticks out).output ≡ out

pub demand_1 : Demand1
demand_1 = record {
  read_gives = reads;
  write_gives = writer_answers;
  write_spares = write_kept;
  fresh_gives = freshens;
  fresh_spares = clear_kept;
  decide_gives = decides;
  feed_gives = feeds;
  feed_spares = refused_spares;
  feed_idle = feed_still;
  chunk_gives = chunks;
  chunk_spares = chunk_stops;
  chunk_idle = chunk_still;
  outcome_gives = tells;
  outcome_spares = tell_still;
  trace_gives = traces;
  trace_spares = trace_still;
  trace_idle = wrong_sizes;
  print_gives = λ o sheet out. (prints o sheet out).gives;
  print_spares = λ o sheet out. (prints o sheet out).spares;
  report_gives = λ names nums ticks out. (reports names nums ticks out).gives;
  report_spares = λ names nums ticks out. (reports names nums ticks out).spares;
}
