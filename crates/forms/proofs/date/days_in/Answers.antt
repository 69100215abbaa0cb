-- `forms::date::days_in` meets its contract: the code's table is the definition's, but for February, which the year decides.
use mathlib.Core.Path.{sym}
use Rattle.forms.specs.Date.{days_in}
use Rattle.forms.proofs.Dates.{no_month, other_month}
use Rattle.forms.proofs.date.days_in.Goals as goal

pub returns-then-month-gt12 : goal.returns-then-month-gt12
returns-then-month-gt12 c = sym (no_month _ _ c.if-month-gt12.true)

pub returns-then-month-ne2 : goal.returns-then-month-ne2
returns-then-month-ne2 c = other_month _ _ c.if-month-ne2.true

pub returns-then-leap : goal.returns-then-leap
unfolding days_in
returns-then-leap c = rw (c.if-month-ne2.false, ← c.leap.ensures, c.if-leap.true)

pub returns-else-leap : goal.returns-else-leap
unfolding days_in
returns-else-leap c = rw (c.if-month-ne2.false, ← c.leap.ensures, c.if-leap.false)
