-- `bill::verdict::verdict_length` meets its contract: the scale or the two numbers with the words around them. No sum wraps, since each has few
-- bytes.
use mathlib.Core.Path.{◌≡◌, ap, ◌∙◌}
use Prim.Native.Nat.{◌+◌, ◌^◌, ◌≤◌, ◌<◌}
use native.Mathlib.Omega.{arith}
use lib.ListN.{length}
use Rattle.text.specs.Number.{digits_of}
use Rattle.text.proofs.Digits.{digits_short}
use Rattle.bill.specs.declared.verdict.Verdict.{Verdict}
use Rattle.bill.specs.Scale.{scale_text}
use Rattle.bill.specs.Verdict.{verdict_text}
use Rattle.bill.proofs.Scales.{scale_short}
use Rattle.bill.proofs.VerdictLine.{length_accepted, length_refused, verdict_accepted, verdict_refused}
use Rattle.bill.proofs.verdict.verdict_length.Goals as goal

-- a line's own length, and how much it is at most
accepted_size : (v : Verdict) → v.number ≡ 0 → v.span < 2 ^ 64 → (length (scale_text v.scale) + length (digits_of v.span) + 30 ≡ length (verdict_text v)) × (length (verdict_text v) ≤ 52)
accepted_size v e h =
    let size = ap length (verdict_accepted v e) ∙ length_accepted v.scale v.span in
    (omega arith, omega (arith, scale_short v.scale, digits_short v.span (omega arith)))

refused_size : (v : Verdict) → (v.number ≡ 0 → ⊥) → v.number < 2 ^ 64 → v.line < 2 ^ 64 → (length (digits_of v.number) + length (digits_of v.line) + 15 ≡ length (verdict_text v)) × (length (verdict_text v) ≤ 55)
refused_size v e h k =
    let size = ap length (verdict_refused v e) ∙ length_refused v.number v.line in
    (omega arith, omega (arith, digits_short v.number (omega arith), digits_short v.line (omega arith)))

pub overflow_add-result : goal.overflow_add-result
overflow_add-result c = omega (arith, ap length c.scale_word.ensures, accepted_size c.args.v c.if-v-eq0.true (omega arith))

pub overflow_add-result-then-v-eq0 : goal.overflow_add-result-then-v-eq0
overflow_add-result-then-v-eq0 c = omega (arith, ap length c.scale_word.ensures, accepted_size c.args.v c.if-v-eq0.true (omega arith))

pub returns-then-v-eq0 : goal.returns-then-v-eq0
returns-then-v-eq0 c = omega (arith, ap length c.scale_word.ensures, accepted_size c.args.v c.if-v-eq0.true (omega arith))

pub overflow_add-result-2 : goal.overflow_add-result-2
overflow_add-result-2 c = omega (arith, refused_size c.args.v c.if-v-eq0.false (omega arith) (omega arith))

pub overflow_add-result-3 : goal.overflow_add-result-3
overflow_add-result-3 c = omega (arith, refused_size c.args.v c.if-v-eq0.false (omega arith) (omega arith))

pub returns : goal.returns
returns c = omega (arith, refused_size c.args.v c.if-v-eq0.false (omega arith) (omega arith))
