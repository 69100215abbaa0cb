use mathlib.Core.Path.{sym, ap, ◌∙◌}
use Prim.Native.Nat.{◌-◌, ◌*◌}
use native.Mathlib.Omega.{arith}
use Rattle.lookup.specs.Find.{instance_is, last_below}
use Rattle.lookup.proofs.Found.{last_end}
use Rattle.lookup.proofs.Gathered.{last_marked, last_unmarked}
use Rattle.lookup.proofs.find.find_below.Goals as goal

pub loop-k-init : goal.loop-k-init
loop-k-init c = ap (last_below (instance_is c.args.nums.now c.args.owner c.args.number)) (omega arith)

pub returns-then-m-ne0 : goal.returns-then-m-ne0
returns-then-m-ne0 c =
    let l = c.loop-k in
    sym (l.invariant ∙ last_marked _ 16 (16 * (l.k - 1)) (16 * l.k) c.sixteen-m.result (omega arith) c.sixteen-m.ensures (omega arith) c.if-m-ne0.true ∙ sym c.last_of.ensures)

pub loop-k-preserved : goal.loop-k-preserved
loop-k-preserved c =
    let l = c.loop-k in
    l.invariant ∙ last_unmarked _ 16 (16 * (l.k - 1)) (16 * l.k) c.sixteen-m.result (omega arith) c.sixteen-m.ensures c.if-m-ne0.false

pub returns : goal.returns
returns c = sym (c.loop-k.invariant ∙ last_end _ _ (omega arith))
