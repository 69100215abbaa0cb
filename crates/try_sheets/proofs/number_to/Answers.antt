-- `try_sheets::number_to` meets its contract: where no number is told, the end of all lies behind the beginning.
use Rattle.std.proofs.Common.{ℕ, ◌≤◌, Option, Some, None, length, sym, subst, arith}
use Rattle.std.specs.Prelude.{IfSome, unwrap_or}
use Rattle.try_sheets.specs.declared.Told.{Told}
use Rattle.try_sheets.specs.Steps.{Step}
use Rattle.try_sheets.proofs.number_to.Goals as goal

told_or : (o : Option Told) (at end : ℕ) → at ≤ end → IfSome o (λ r. Step r at end) → Step (unwrap_or o (record { number = 0; next = end })) at end
told_or (Some r) at end h s = s
told_or None at end h s = record { small = omega arith; within = omega arith; on = omega arith; further = λ l. omega arith }

pub returns : goal.returns
returns c = subst (λ (r : Told). Step r c.args.at (length c.args.s.now)) (sym c.unwrap_or.ensures) (told_or c.number_at.result _ _ c.requires c.number_at.ensures)
