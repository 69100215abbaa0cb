-- `forms::date::leap` meets its contract: at each exit the tests passed say what the definition's tests say.
use mathlib.Core.Path.{sym}
use Prim.Native.Nat.{◌%◌}
use native.Mathlib.Omega.{arith}
use borrow.Author.Tests.{eq-eqb, ne_eqb}
use Rattle.forms.specs.Date.{is_leap}
use Rattle.forms.proofs.Dates.{and_true}
use Rattle.forms.proofs.date.leap.Goals as goal

pub returns-then-year-eq0 : goal.returns-then-year-eq0
unfolding is_leap
returns-then-year-eq0 c = rw (eq-eqb _ 0 c.if-year-eq0.true)

pub returns-then-year-eq0-2 : goal.returns-then-year-eq0-2
unfolding is_leap
returns-then-year-eq0-2 c = rw (ne_eqb _ 0 c.if-year-eq0.false, eq-eqb (c.args.year % 4) 0 (omega arith), eq-eqb _ 0 c.if-year-eq0-2.true)

pub returns : goal.returns
unfolding is_leap
returns c = rw (ne_eqb _ 0 c.if-year-eq0.false, ne_eqb _ 0 c.if-year-eq0-2.false) (sym (and_true _))
