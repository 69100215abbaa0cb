-- What each call gives, and what it leaves: the laws behind demand 1, over any bytes, any record, any tables and any output.
use Rattle.std.proofs.Common.{Err, Ok, Result}
use mathlib.Core.Path.{◌≡◌, refl, sym, subst}
use mathlib.Core.Bool.{Bool, true, false, ◌||◌, cond}
use mathlib.Core.Logic.{⊎_elim}
use mathlib.Core.List.{List, [], ◌∷◌}
use Prim.Native.Nat.{ℕ, zero, suc, ◌+◌, ◌≤◌, ◌<◌}
use native.Mathlib.Omega.{arith}
use lib.Dec.{eqb, leb}
use lib.ListN.{length, take}
use borrow.Author.Tests.{eqb-false, ne_eqb}
use Rattle.text.specs.Put.{written}
use Rattle.walk.specs.Lines.{whole_lines, used_up, lines_of}
use Rattle.line.specs.declared.event.Event.{Event as ReadEvent}
use Rattle.line.specs.Reading.{read_line, answer_of}
use Rattle.line.specs.Condition.{reader_tests}
use Rattle.line.specs.Writing.{write_line, written_answer}
use Rattle.line.proofs.Answers.{answer_lowest}
use Rattle.line.proofs.Outputs.{refused_keeps}
use Rattle.line.proofs.Lowest.{lowest_has}
use Rattle.bill.specs.declared.verdict.Verdict.{Verdict}
use Rattle.bill.specs.Text.{sheet_text}
use Rattle.bill.specs.Verdict.{report_text}
use Rattle.rules.specs.Limits.{last_refusal}
use Rattle.rules.specs.Lists.{member, if_zero}
use Rattle.rules.specs.Event.{Event}
use Rattle.tables.specs.Entry.{verdict_number}
use Rattle.tables.specs.Fresh.{cleared_of}
use Rattle.tables.specs.Sized.{is_sized}
use Rattle.tables.proofs.Zeros.{clear_answers}
use Rattle.ranges.specs.Range.{table_answer}
use Rattle.ranges.proofs.Valid.{valid, three_answers}
use Rattle.decide.specs.Decide.{plan_answer, decided}
use Rattle.decide.proofs.Decided.{ruled, plan_answer_lem, decided_answer, plan_refuses}
use Rattle.sheet.specs.Sheet.{sheet_in}
use Rattle.judge.specs.Feed.{Tables, After, after, judged_line, judged_lines, fed_line, AfterChunk, fed_chunk}
use Rattle.outcome.specs.declared.now.Outcome.{Outcome}
use Rattle.outcome.specs.AtEnd.{verdict_in}
use Rattle.outcome.specs.Outcome.{Asked, asked, refused_by, filled, outcome_in, trace_outcome}
use Rattle.outcome.proofs.AtEnd.{told_most}
use Rattle.run.specs.Report.{Reported, reported, printed_answer, text_printed, outcome_printed, report_written}
use Rattle.promises.specs.Answers.{read_answers, decide_answers, fresh_answers, feed_answers, trace_answers, print_answers, report_answers, write_nothing}
use Rattle.promises.proofs.Judged.{after_lines, never_16}
use Rattle.promises.proofs.Numbers.{judged_numbered, lines_most}
use Rattle.promises.proofs.Refused.{StopsAfter, lines_spare}
use Rattle.promises.proofs.Outcomes.{trace_outcome_lem, wrong_sizes}

-- ---- numbers in a row

up_from : ℕ → ℕ → List ℕ
up_from m zero = []
up_from m (suc c) = m ∷ up_from (suc m) c

in_row : (m c n : ℕ) → m ≤ n → n < m + c → member n (up_from m c) ≡ true
unfolding up_from
in_row m zero n l u = absurd (omega arith)
in_row m (suc c) n l u = by_test (eqb n m) refl (in_row (suc m) c n)
  where
    by_test : (b : Bool) → eqb n m ≡ b → (suc m ≤ n → n < suc m + c → member n (up_from (suc m) c) ≡ true) → b || member n (up_from (suc m) c) ≡ true
    by_test true q f = refl
    by_test false q f = let z = eqb-false n m q in f (omega arith) (omega arith)

in_feed : (n : ℕ) → n ≤ 16 → member n feed_answers ≡ true
unfolding up_from
in_feed n h = in_row 0 17 n (omega arith) (omega arith)

in_trace : (n : ℕ) → n ≤ 15 → member n trace_answers ≡ true
unfolding up_from
in_trace n h = in_row 0 16 n (omega arith) (omega arith)

in_decide : (n : ℕ) → (1 ≤ n → (8 ≤ n) × (n ≤ last_refusal)) → member n decide_answers ≡ true
unfolding up_from
in_decide zero f = refl
in_decide (suc n) f = let b = f (omega arith) in rw (ne_eqb (suc n) 0 (λ e. omega arith)) (in_row 8 8 (suc n) b.0 (omega arith))

-- what is remembered is neither 15 nor 16
remembers : (n : ℕ) → n ≤ last_refusal → member n write_nothing ≡ false
remembers n h = rw (ne_eqb n 15 (λ e. omega arith), ne_eqb n 16 (λ e. omega arith))

-- ---- lines

pub reads : (line : List ℕ) → member (answer_of (read_line line)) read_answers ≡ true
reads line = rw (answer_lowest line) (lowest_has (λ n. member n read_answers ≡ true) (reader_tests line) refl (refl, (refl, (refl, (refl, (refl, (refl, tt)))))))

pub write_kept : (e : ReadEvent) (source target note out : List ℕ) → (written_answer (write_line e source target note out).answer ≡ 0 → ⊥) →
    (write_line e source target note out).output ≡ out
unfolding written_answer
write_kept e source target note out = by_answer (write_line e source target note out).answer refl
  where
    by_answer : (w : Result ℕ ℕ) → (write_line e source target note out).answer ≡ w → (written_answer w ≡ 0 → ⊥) → (write_line e source target note out).output ≡ out
    by_answer (Ok n) q h = absurd (h refl)
    by_answer (Err n) q h = refused_keeps e source target note out n q

-- ---- tables

pub freshens : (names nums ticks : List ℕ) → member (cleared_of names nums ticks).answer fresh_answers ≡ true
freshens names nums ticks = ⊎_elim (λ q. rw q) (λ q. rw q) (clear_answers names nums ticks)

pub decides : (names nums ticks : List ℕ) (e : Event) → member (plan_answer (decided names nums ticks e)) decide_answers ≡ true
decides names nums ticks e = rw (decided_answer names nums ticks e) (by_size (is_sized (length names) (length nums) (length ticks)))
  where
    by_size : (b : Bool) → member (cond b (ruled names nums ticks e) 15) decide_answers ≡ true
    by_size true = in_decide (ruled names nums ticks e) (rw (plan_answer_lem names nums ticks e) at (plan_refuses names nums ticks e))
    by_size false = refl

-- the tables' own answer is 0, 15 or 16
module _ (names nums ticks : List ℕ) where
  own : (P : ℕ → Type 0) → (table_answer names nums ticks ≡ 0 → P 0) → P 15 → P 16 → P (table_answer names nums ticks)
  own P z f s =
      ⊎_elim (λ e. subst P (sym e) (z e)) (λ w. ⊎_elim (λ e. subst P (sym e) f) (λ e. subst P (sym e) s) w) (three_answers names nums ticks)

module _ (t : Tables) where
  abbrev by_own : (P : ℕ → Type 0) → (table_answer t.names t.nums t.ticks ≡ 0 → P 0) → P 15 → P 16 → P (table_answer t.names t.nums t.ticks)
  by_own = own t.names t.nums t.ticks

  -- ---- one line

  module _ (line : List ℕ) where
    abbrev one : ℕ → After
    one n = if_zero n (judged_line t line) (after n t.names t.nums t.ticks)

    line_most : table_answer t.names t.nums t.ticks ≡ 0 → (judged_line t line).answer ≤ last_refusal
    line_most e = let v = valid t.names t.nums t.ticks e in (judged_numbered t v.sizes.nums_sized v.verdict line).most

    pub feeds : member (fed_line t line).answer feed_answers ≡ true
    unfolding fed_line
    feeds = by_own (λ n. member (one n).answer feed_answers ≡ true) (λ e. let m = line_most e in in_feed (judged_line t line).answer (omega arith)) refl refl

    pub feed_still : member (fed_line t line).answer write_nothing ≡ true → (fed_line t line).left ≡ t
    unfolding fed_line
    feed_still =
        by_own (λ n. member (one n).answer write_nothing ≡ true → (one n).left ≡ t)
        (λ e q. let z = remembers (judged_line t line).answer (line_most e) in cc) (λ q. refl) (λ q. refl)

  -- ---- a chunk

  module _ (chunk : List ℕ) where
    abbrev many : ℕ → AfterChunk
    many n =
        if_zero n
        (record {
          fed = record { answer = verdict_number (judged_lines t (whole_lines chunk)).nums; used = used_up chunk };
          left = judged_lines t (whole_lines chunk);
        })
        (record { fed = record { answer = n; used = 0 }; left = t })

    chunk_most : table_answer t.names t.nums t.ticks ≡ 0 → verdict_number (judged_lines t (whole_lines chunk)).nums ≤ last_refusal
    chunk_most e = let v = valid t.names t.nums t.ticks e in lines_most t v.sizes.nums_sized v.verdict (whole_lines chunk)

    pub chunks : member (fed_chunk t chunk).fed.answer feed_answers ≡ true
    unfolding fed_chunk
    chunks =
        by_own (λ n. member (many n).fed.answer feed_answers ≡ true)
        (λ e. let m = chunk_most e in in_feed (verdict_number (judged_lines t (whole_lines chunk)).nums) (omega arith)) refl refl

    pub chunk_still : member (fed_chunk t chunk).fed.answer write_nothing ≡ true → (fed_chunk t chunk).left ≡ t
    unfolding fed_chunk
    chunk_still =
        by_own (λ n. member (many n).fed.answer write_nothing ≡ true → (many n).left ≡ t)
        (λ e q. let z = remembers (verdict_number (judged_lines t (whole_lines chunk)).nums) (chunk_most e) in cc) (λ q. refl) (λ q. refl)

    pub chunk_stops : member (fed_chunk t chunk).fed.answer write_nothing ≡ false →
        ((fed_chunk t chunk).left ≡ judged_lines t (whole_lines chunk)) × StopsAfter t (whole_lines chunk)
    unfolding fed_chunk
    chunk_stops =
        by_own (λ n. member (many n).fed.answer write_nothing ≡ false → ((many n).left ≡ judged_lines t (whole_lines chunk)) × StopsAfter t (whole_lines chunk))
        (λ e q. let v = valid t.names t.nums t.ticks e in (refl, lines_spare t v.sizes.nums_sized v.verdict (whole_lines chunk)))
        (λ q. absurd (let z : ◌≡◌ {A = ℕ} 0 1 = cc in omega arith))
        (λ q. absurd (let z : ◌≡◌ {A = ℕ} 0 1 = cc in omega arith))

-- ---- the one question, and a whole trace

-- what tables in range tell: a number of at most 15, and where that is 15 the output is as it was
pub record Telling (x : Asked) (out : List ℕ) : Type 0 where
  pub most : x.outcome.verdict.number ≤ 15
  pub spares : member x.outcome.verdict.number write_nothing ≡ true → x.output ≡ out

filled_tells : (v : Verdict) (text out : List ℕ) → v.number ≤ last_refusal → Telling (filled v text out) out
filled_tells v text out h = by_room (leb (length text) (length out))
  where
    by_room : (b : Bool) → Telling (cond b (asked (record { verdict = v; length = length text }) (written out 0 text)) (asked (refused_by 15) out)) out
    by_room true = record { most = omega arith; spares = λ q. let z = remembers v.number h in absurd (let y : ◌≡◌ {A = ℕ} 0 1 = cc in omega arith) }
    by_room false = record { most = omega arith; spares = λ q. refl }

module _ (t : Tables) (out : List ℕ) where
  abbrev question : ℕ → Asked
  question n = if_zero n (filled (verdict_in t.nums t.ticks) (sheet_text (sheet_in t.names t.nums t.ticks)) out) (asked (refused_by n) out)

  told : table_answer t.names t.nums t.ticks ≡ 0 → Telling (question 0) out
  told e = filled_tells (verdict_in t.nums t.ticks) (sheet_text (sheet_in t.names t.nums t.ticks)) out (told_most t.names t.nums t.ticks e)

  pub tells : member (outcome_in t out).outcome.verdict.number feed_answers ≡ true
  unfolding outcome_in
  tells =
      by_own t (λ n. member (question n).outcome.verdict.number feed_answers ≡ true)
      (λ e. let m = (told e).most in in_feed (question 0).outcome.verdict.number (omega arith)) refl refl

  pub tell_still : member (outcome_in t out).outcome.verdict.number write_nothing ≡ true → (outcome_in t out).output ≡ out
  unfolding outcome_in
  tell_still =
      by_own t (λ n. member (question n).outcome.verdict.number write_nothing ≡ true → (question n).output ≡ out) (λ e. (told e).spares) (λ q. refl) (λ q. refl)

after_told : (u : Tables) (out : List ℕ) → table_answer u.names u.nums u.ticks ≡ 0 → Telling (outcome_in u out) out
unfolding outcome_in
after_told u out e = rw e (told u out e)

module _ (t : Tables) (trace out : List ℕ) where
  abbrev sizes : Bool
  sizes = is_sized (length t.names) (length t.nums) (length t.ticks)

  trace_tells : Telling (trace_outcome t trace out).told out
  trace_tells = by_size sizes refl
    where
      by_size : (b : Bool) → sizes ≡ b → Telling (trace_outcome t trace out).told out
      by_size true f = rw (trace_outcome_lem t trace f out) (after_told (after_lines (lines_of trace)) out (never_16 (lines_of trace)))
      by_size false f = rw (wrong_sizes t f trace out) (record { most = omega arith; spares = λ q. refl })

  pub traces : member (trace_outcome t trace out).told.outcome.verdict.number trace_answers ≡ true
  traces = in_trace _ trace_tells.most

  pub trace_still : (trace_outcome t trace out).told.outcome.verdict.number ≡ 15 → (trace_outcome t trace out).told.output ≡ out
  trace_still q = trace_tells.spares (rw q)

-- ---- an output

pub record Printing (x : Reported) (out : List ℕ) (answers : List ℕ) : Type 0 where
  pub gives : member (printed_answer x.answer) answers ≡ true
  pub spares : (printed_answer x.answer ≡ 0 → ⊥) → x.output ≡ out

module _ (text out : List ℕ) where
  text_prints : (answers : List ℕ) → member 0 answers ≡ true → member 15 answers ≡ true → Printing (text_printed text out) out answers
  unfolding text_printed printed_answer
  text_prints answers z f = by_room (leb (length text) (length out))
    where
      by_room : (b : Bool) → Printing (cond b (reported (Ok (length text)) (written out 0 text)) (reported (Err 15) out)) out answers
      by_room true = record { gives = z; spares = λ h. absurd (h refl) }
      by_room false = record { gives = f; spares = λ h. refl }

pub prints : (o : Outcome) (sheet out : List ℕ) → Printing (outcome_printed o sheet out) out print_answers
unfolding outcome_printed
prints o sheet out = text_prints (report_text o.verdict (take o.length sheet)) out print_answers refl refl

pub reports : (names nums ticks out : List ℕ) → Printing (report_written names nums ticks out) out report_answers
unfolding report_written printed_answer
reports names nums ticks out =
    let text = report_text (verdict_in nums ticks) (sheet_text (sheet_in names nums ticks)) in
    own names nums ticks (λ n. Printing (if_zero n (text_printed text out) (reported (Err n) out)) out report_answers)
    (λ e. text_prints text out report_answers refl refl)
    (record { gives = refl; spares = λ h. refl }) (record { gives = refl; spares = λ h. refl })
