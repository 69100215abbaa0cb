use mathlib.Core.Path.{sym, ◌∙◌}
use native.Mathlib.Omega.{arith}
use borrow.Author.Tests.{ne_eqb}
use Rattle.lookup.specs.Find.{find_from}
use Rattle.lookup.proofs.Found.{last_hit, last_miss, last_end, from_found}
use Rattle.lookup.proofs.find.find_from.Goals as goal

pub returns-in_default : goal.returns-in_default
unfolding find_from
returns-in_default c = rw (ne_eqb _ _ c.in_default.ensures.cases)

pub loop-j-init : goal.loop-j-init
loop-j-init c = from_found _ _ _ (omega arith)

pub returns-then-reaches : goal.returns-then-reaches
returns-then-reaches c = rw (← c.in-Some.ensures.cases.same) (sym (c.loop-j.invariant ∙ last_hit _ c.loop-j.j c.loop-j-test.true (sym c.reaches.ensures ∙ c.if-reaches.true)))

pub loop-j-preserved : goal.loop-j-preserved
loop-j-preserved c = c.loop-j.invariant ∙ last_miss _ c.loop-j.j c.loop-j-test.true (sym c.reaches.ensures ∙ c.if-reaches.false)

pub returns : goal.returns
returns c = rw (← c.in-Some.ensures.cases.same) (sym (c.loop-j.invariant ∙ last_end _ _ c.loop-j-test.false))
