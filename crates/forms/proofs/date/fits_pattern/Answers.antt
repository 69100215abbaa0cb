-- `forms::date::fits_pattern` meets its contract.
use mathlib.Core.Path.{sym, ◌∙◌}
use borrow.Author.Rules.{rules}
use Rattle.std.proofs.Common.{tests}
use Rattle.std.proofs.lemmas.Iterator.{YieldsList-from_slice, YieldsList-from_zip}
use Rattle.std.proofs.lemmas.Iterator.Search.{all_from_yields_List}
use Rattle.forms.specs.Date.{fits_byte}
use Rattle.forms.proofs.Dates.{fits_other, fits_zip}
use Rattle.forms.proofs.date.fits_pattern.Goals as goal

pub returns-then-s-pattern : goal.returns-then-s-pattern
returns-then-s-pattern c = sym (fits_other _ _ c.if-s-pattern.true)

pub returns : goal.returns
returns c =
    let s = c.args.s.now in
    let p = c.args.pattern.now in
    all_from_yields_List (λ q. fits_byte q.0 q.1) c.all.new.self _ c.all.result c.all.ensures.ran (YieldsList-from_zip (YieldsList-from_slice s cc) (YieldsList-from_slice p cc)) (λ x b q k. search (rules, tests))
    ∙ fits_zip s p c.if-s-pattern.false
