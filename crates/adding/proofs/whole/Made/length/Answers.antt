-- `adding::whole::Made::length` meets its contract: the lengths of the three parts, none of them long.
use mathlib.Core.Path.{◌≡◌, refl, ap, ◌∙◌}
use Prim.Native.Nat.{ℕ}
use native.Mathlib.Omega.{arith}
use lib.ListN.{length}
use Rattle.bill.specs.Verdict.{accepted_text, verdict_text}
use Rattle.bill.proofs.VerdictLine.{verdict_accepted}
use Rattle.bill.specs.declared.verdict.Verdict.{Verdict}
use Rattle.adding.specs.AddCode.{head_of}
use Rattle.adding.proofs.Made.{head_short, length_made}
use Rattle.adding.proofs.whole.Made.length.Goals as goal

head_length : {n scale span : ℕ} {v : Verdict} → v ≡ head_of scale span → n ≡ length (verdict_text v) → n ≡ length (accepted_text scale span)
head_length e h = h ∙ ap length (ap verdict_text e ∙ verdict_accepted _ refl)

pub overflow_add-result : goal.overflow_add-result
overflow_add-result c = omega (arith, head_length c.head.ensures c.verdict_length.ensures, head_short c.args.self.now.scale c.args.self.now.span (omega arith))

pub overflow_add-result-2 : goal.overflow_add-result-2
overflow_add-result-2 c = omega (arith, head_length c.head.ensures c.verdict_length.ensures, head_short c.args.self.now.scale c.args.self.now.span (omega arith))

pub returns : goal.returns
returns c = omega (arith, head_length c.head.ensures c.verdict_length.ensures, length_made c.args.self.now)
