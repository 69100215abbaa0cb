-- What is printed of valid tables fits: they have at most 256 names of at most 64 bytes, and no figure has more than 20 digits.
use mathlib.Core.Bool.{Bool, true, false, cond}
use mathlib.Core.List.{List, []}
use Prim.Native.Nat.{ℕ, ◌+◌, ◌-◌, ◌%◌, ◌^◌, ◌≤◌, ◌<◌}
use native.Mathlib.Omega.{arith}
use lib.Dec.{eqb}
use lib.ListN.{length, length-append}
use Rattle.text.proofs.Digits.{digits_short}
use Rattle.bill.specs.declared.verdict.Verdict.{Verdict}
use Rattle.bill.specs.Text.{sheet_text}
use Rattle.bill.specs.Verdict.{accepted_text, refused_text, verdict_text, report_text}
use Rattle.bill.proofs.Scales.{scale_short}
use Rattle.bill.proofs.VerdictLine.{length_accepted, length_refused}
use Rattle.tables.specs.Entry.{verdict_number, verdict_line, line_count, scale_entry, first_time, last_time}
use Rattle.ranges.proofs.Valid.{Valid}
use Rattle.sheet.specs.Sheet.{sheet_in, sheet_most}
use Rattle.sheet.proofs.Short.{sheet_fits}
use Rattle.outcome.specs.AtEnd.{verdict, verdict_in}
use Rattle.run.specs.Report.{text_most}

-- ---- the line that tells the verdict: no number of it needs more than 64 bits

abbrev entry_end : ℕ
entry_end = 18446744073709551616

record Small (v : Verdict) : Type 0 where
  number : v.number < entry_end
  line : v.line < entry_end
  span : v.span < entry_end

verdict_small : {names nums ticks : List ℕ} → Valid names nums ticks → Small (verdict_in nums ticks)
unfolding verdict_in
verdict_small {names} {nums} {ticks} v = by_tests (eqb (verdict_number nums) 0) (eqb (line_count nums) 0) (eqb (scale_entry nums) 0)
  where
    span : ℕ
    span = last_time ticks - first_time ticks

    by_tests : (a b d : Bool) →
        Small
        (cond a (cond b (verdict 2 1 0 span) (cond d (verdict 4 ((line_count nums + 1) % 2 ^ 32) 0 span) (verdict 0 0 (scale_entry nums) span)))
        (verdict (verdict_number nums) (verdict_line nums) (scale_entry nums) span))
    by_tests true true d = record { number = omega arith; line = omega arith; span = omega (arith, v) }
    by_tests true false true = record { number = omega arith; line = omega arith; span = omega (arith, v) }
    by_tests true false false = record { number = omega arith; line = omega arith; span = omega (arith, v) }
    by_tests false b d = record { number = omega (arith, v); line = omega (arith, v); span = omega (arith, v) }

line_short : (v : Verdict) → Small v → length (verdict_text v) ≤ 55
unfolding verdict_text
line_short v s = by_number (eqb v.number 0)
  where
    by_number : (b : Bool) → length (cond b (accepted_text v.scale v.span) (refused_text v.number v.line)) ≤ 55
    by_number true = omega (arith, length_accepted v.scale v.span, scale_short v.scale, digits_short v.span s.span)
    by_number false = omega (arith, length_refused v.number v.line, digits_short v.number s.number, digits_short v.line s.line)

-- ---- all of the text

sheet_short : {names nums ticks : List ℕ} → Valid names nums ticks → (b : Bool) → length (cond b (sheet_text (sheet_in names nums ticks)) []) ≤ sheet_most
sheet_short v true = sheet_fits v
sheet_short v false = omega arith

pub report_fits : {names nums ticks : List ℕ} → Valid names nums ticks →
    length (report_text (verdict_in nums ticks) (sheet_text (sheet_in names nums ticks))) ≤ text_most
unfolding report_text
report_fits {names} {nums} {ticks} v =
    let w = verdict_in nums ticks in
    let b = eqb w.number 0 in
    omega
    (arith, length-append (verdict_text w) (cond b (sheet_text (sheet_in names nums ticks)) []), line_short w (verdict_small v), sheet_short v b)
