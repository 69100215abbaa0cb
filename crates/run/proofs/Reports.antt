-- Laws of what is printed: the text of an outcome is the verdict's line and as much of the sheet as is printed; and the outcome that the tables tell is printed as their text,
-- since a sheet always fits into the memory that it is filled into.
use Rattle.std.proofs.Common.{Err, Ok}
use mathlib.Core.Path.{◌≡◌, sym, ap, ◌∙◌}
use mathlib.Core.Bool.{cond}
use mathlib.Core.Logic.{◌⊎◌, inl, inr, ⊎_elim}
use mathlib.Core.List.{List, [], ◌++◌}
use Prim.Native.Nat.{ℕ, ◌+◌, ◌≤◌, ◌<◌}
use native.Mathlib.Omega.{arith}
use lib.Dec.{eqb}
use lib.ListN.{length, take, length-append}
use lib.Seq.{length-take-le}
use borrow.Author.Tests.{le-leb, lt-leb}
use Rattle.text.specs.Put.{written, Put, after, put}
use Rattle.text.proofs.Writes.{take_written, put_fits, put_two}
use Rattle.bill.specs.Text.{sheet_text}
use Rattle.bill.specs.Verdict.{verdict_text, report_text}
use Rattle.rules.proofs.Tests.{if_some}
use Rattle.ranges.specs.Range.{table_answer}
use Rattle.ranges.proofs.Valid.{valid, three_answers}
use Rattle.sheet.specs.Sheet.{sheet_in, sheet_most}
use Rattle.sheet.proofs.Short.{sheet_fits}
use Rattle.judge.specs.Feed.{tables}
use Rattle.outcome.specs.declared.now.Outcome.{Outcome}
use Rattle.outcome.specs.AtEnd.{verdict_in}
use Rattle.outcome.specs.Outcome.{Asked, asked, refused_by, outcome_in}
use Rattle.outcome.proofs.AtEnd.{told_most}
use Rattle.run.specs.Report.{reported, text_printed, outcome_printed, report_written}

-- ---- as much of the sheet as is printed

module _ (o : Outcome) (sheet : List ℕ) where
  abbrev pub part : List ℕ
  part = cond (eqb o.verdict.number 0) (take o.length sheet) []

  -- ---- the text of an outcome: n bytes of a verdict's line, and m of the sheet

  abbrev text : List ℕ
  text = report_text o.verdict (take o.length sheet)

  module _ {n m : ℕ} (line : n ≡ length (verdict_text o.verdict)) (fits : m ≤ length sheet) (some : take m sheet ≡ part) (out : List ℕ) where
    both : text ≡ verdict_text o.verdict ++ take m sheet
    unfolding report_text
    both = rw some

    text_length : length text ≡ n + m
    text_length = omega (arith, line, ap length both, length-append (verdict_text o.verdict) (take m sheet), length-take-le m sheet fits)

    pub outcome_full : length out < n + m → reported (Err 15) out ≡ outcome_printed o sheet out
    unfolding outcome_printed text_printed
    outcome_full h = rw (lt-leb (length text) (length out) (omega (arith, text_length)))

    pub outcome_done : {i j : ℕ} {k l : List ℕ} → n + m ≤ length out
        → after i k ≡ put out 0 (verdict_text o.verdict) → after j l ≡ put k i (take m sheet) → reported (Ok j) l ≡ outcome_printed o sheet out
    unfolding outcome_printed text_printed
    outcome_done {i} {j} {k} {l} h p q =
        let all : after j l ≡ put out 0 text = rw both (put_two out 0 (verdict_text o.verdict) (take m sheet) p q (omega (arith, ap length both, text_length))) in
        let w = all ∙ put_fits out 0 text (omega (arith, text_length)) in
        let end : j ≡ length text = ap (λ (x : Put). x.next) w ∙ omega arith in
        let left : l ≡ written out 0 text = ap (λ (x : Put). x.output) w in
        rw (end, left, le-leb (length text) (length out) (omega (arith, text_length)))

-- ---- the outcome that the tables tell, filled into memory for any sheet

module _ (names nums ticks : List ℕ) where
  abbrev own : ℕ
  own = table_answer names nums ticks

  abbrev sheet : List ℕ
  sheet = sheet_text (sheet_in names nums ticks)

  abbrev Told : List ℕ → Outcome → List ℕ → Type 0
  Told blank o m = (o ≡ record { verdict = verdict_in nums ticks; length = length sheet }) × (m ≡ written blank 0 sheet)

  own_least : (own ≡ 0) ⊎ ((15 ≤ own) × (own ≤ 16))
  own_least = ⊎_elim (λ e. inl e) (λ w. inr (⊎_elim (λ e. (omega arith, omega arith)) (λ e. (omega arith, omega arith)) w)) (three_answers names nums ticks)

  module _ {o : Outcome} {m : List ℕ} (blank : List ℕ) (wide : length blank ≡ sheet_most) (e : asked o m ≡ outcome_in (tables names nums ticks) blank) where
    told : own ≡ 0 → Told blank o m
    unfolding outcome_in
    told z =
        let w : asked o m ≡ asked (record { verdict = verdict_in nums ticks; length = length sheet }) (written blank 0 sheet) =
        e ∙ rw (z, le-leb (length sheet) (length blank) (omega (arith, sheet_fits (valid names nums ticks z)))) in
        (ap (λ (x : Asked). x.outcome) w, ap (λ (x : Asked). x.output) w)

    refused : 15 ≤ own → o.verdict.number ≡ own
    unfolding outcome_in
    refused h = ap (λ (x : Asked). x.outcome.verdict.number) (e ∙ if_some own _ (asked (refused_by own) blank) (λ z. omega arith))

    pub report_refused : (out : List ℕ) {n : ℕ} → o.verdict.number ≡ n → 15 ≤ n → reported (Err n) out ≡ report_written names nums ticks out
    unfolding report_written
    report_refused out {n} e h =
        ⊎_elim
        (λ z. absurd (omega (arith, told_most names nums ticks z, e, ap (λ (x : Outcome). x.verdict.number) (told z).0)))
        (λ l. rw (sym e ∙ refused l.0) (sym (if_some own _ (reported (Err own) out) (λ z. omega (arith, l.0))))) own_least

    pub report_told : (out : List ℕ) → (o.verdict.number ≡ 15 → ⊥) → (o.verdict.number ≡ 16 → ⊥) → outcome_printed o m out ≡ report_written names nums ticks out
    unfolding outcome_printed report_written
    report_told out h k =
        ⊎_elim
        (λ z. let w = told z in rw (z, w.0, w.1, take_written blank sheet (omega (arith, sheet_fits (valid names nums ticks z)))))
        (λ l. let n = refused l.0 in absurd (omega (arith, h, k, l.0, l.1))) own_least
