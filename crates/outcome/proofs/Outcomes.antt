-- What the one question leaves, by the answer on the tables and by the room in the output.
use Rattle.std.proofs.Common.{◌≡◌, ℕ, ◌<◌, ◌≤◌, List, length, le-leb}
use borrow.Author.Tests.{lt-leb}
use Rattle.text.specs.Put.{written}
use Rattle.bill.specs.declared.verdict.Verdict.{Verdict}
use Rattle.bill.specs.Text.{sheet_text}
use Rattle.rules.proofs.Tests.{if_some}
use Rattle.ranges.specs.Range.{table_answer}
use Rattle.sheet.specs.Sheet.{sheet_in}
use Rattle.judge.specs.Feed.{Tables}
use Rattle.outcome.specs.declared.now.Outcome.{Outcome}
use Rattle.outcome.specs.AtEnd.{verdict_in}
use Rattle.outcome.specs.Outcome.{asked, refused_by, outcome_in}

module _ (t : Tables) (out : List ℕ) where
  abbrev own : ℕ
  own = table_answer t.names t.nums t.ticks

  abbrev text : List ℕ
  text = sheet_text (sheet_in t.names t.nums t.ticks)

  pub tables_refused : {n : ℕ} {r : Outcome} → n ≡ own → (n ≡ 0 → ⊥) → r ≡ refused_by n → asked r out ≡ outcome_in t out
  unfolding outcome_in
  tables_refused {n} e h p = rw (p, ← e, if_some n _ (asked (refused_by n) out) h)

  pub too_short : {r : Outcome} → own ≡ 0 → length out < length text → r ≡ refused_by 15 → asked r out ≡ outcome_in t out
  unfolding outcome_in
  too_short e h p = rw (p, e, lt-leb (length text) (length out) h)

  pub answered : {v : Verdict} {n : ℕ} {m : List ℕ}
      → own ≡ 0
      → length text ≤ length out
      → v ≡ verdict_in t.nums t.ticks
      → n ≡ length text
      → m ≡ written out 0 text
      → asked (record { verdict = v; length = n }) m ≡ outcome_in t out
  unfolding outcome_in
  answered e h pv pn pm = rw (pv, pn, pm, e, le-leb (length text) (length out) h)
