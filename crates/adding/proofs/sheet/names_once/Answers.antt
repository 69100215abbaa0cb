-- `adding::sheet::names_once` meets its contract: each section is put in order, and then they are compared.
use mathlib.Core.Path.{◌∙◌}
use Rattle.adding.proofs.NameTests.{both_rise, compared}
use Rattle.adding.proofs.sheet.names_once.Goals as goal

pub meet-requires : goal.meet-requires
meet-requires c =
    let s = c.sort in
    let h = c.requires in
    both_rise _ _ _ _ (s.ensures.0 ∙ h.2) s.result s.ensures.1 (rw c.if-not-sort.false) _ (c.sort-2.ensures.0 ∙ h.3) c.sort-2.result c.sort-2.ensures.1 (rw c.if-not-sort-2.false)

pub returns : goal.returns
returns c =
    let s = c.sort in
    let h = c.requires in
    compared _ _ _ _ (s.ensures.0 ∙ h.2) s.result s.ensures.1 (rw c.if-not-sort.false) _ (c.sort-2.ensures.0 ∙ h.3) c.sort-2.result c.sort-2.ensures.1 (rw c.if-not-sort-2.false) c.meet.result c.meet.ensures
