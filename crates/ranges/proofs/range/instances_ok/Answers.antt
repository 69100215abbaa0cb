use Rattle.std.proofs.Common.{◌∙◌}
use mathlib.Core.Path.{sym}
use native.Mathlib.Omega.{arith}
use borrow.Author.Count.{below_more}
use Rattle.ranges.proofs.UpTo.{up_all, up_not}
use Rattle.ranges.proofs.range.instances_ok.Goals as goal

pub returns-then-not-instance_ok : goal.returns-then-not-instance_ok
returns-then-not-instance_ok c = sym (up_not _ _ _ c.loop-j-test.true (sym c.instance_ok.ensures ∙ c.if-not-instance_ok.true))

pub loop-j-preserved : goal.loop-j-preserved
loop-j-preserved c = below_more _ _ c.loop-j.invariant (sym c.instance_ok.ensures ∙ c.if-not-instance_ok.false)

pub returns : goal.returns
returns c = sym (up_all _ _ (λ k h. c.loop-j.invariant k (omega arith)))
