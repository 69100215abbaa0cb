-- `lookup::find::find_instance` meets its contract. No row past those that there is room for is the instance; the marks of the newest sixteen tell
-- its last row, or that it is below them.
use mathlib.Core.Path.{sym, ◌∙◌}
use Prim.Native.Nat.{◌-◌, ◌*◌, ◌/◌}
use native.Mathlib.Omega.{arith}
use borrow.Author.Tests.{ne_eqb}
use Rattle.lookup.specs.Find.{find_instance}
use Rattle.lookup.proofs.Found.{last_end}
use Rattle.lookup.proofs.Gathered.{front_marked, last_marked, last_unmarked, instance_below}
use Rattle.lookup.proofs.find.find_instance.Goals as goal

pub returns-in_default : goal.returns-in_default
unfolding find_instance
returns-in_default c = rw (ne_eqb _ _ c.in_default.ensures.cases)

pub returns-then-n-eq0 : goal.returns-then-n-eq0
returns-then-n-eq0 c =
    let array = c.in-Some.ensures.cases in
    rw (← array.same) (sym (instance_below c.in-Some.nums.now _ _ c.rows-n.result (omega arith) c.rows-n.ensures ∙ last_end _ _ (omega arith)))

pub returns-then-m-ne0 : goal.returns-then-m-ne0
returns-then-m-ne0 c =
    let array = c.in-Some.ensures.cases in
    let n = c.rows-n.result in
    let at = (n - 1) / 16 * 16 in
    let marks = front_marked _ (n - at) at c.sixteen.result (omega arith) c.sixteen.ensures in
    rw (← array.same)
    (sym (instance_below c.in-Some.nums.now _ _ n (omega arith) c.rows-n.ensures
    ∙ last_marked _ (n - at) at n _ (omega arith) marks (omega arith) c.if-m-ne0.true ∙ sym c.last_of.ensures))

pub returns : goal.returns
returns c =
    let array = c.in-Some.ensures.cases in
    let n = c.rows-n.result in
    let at = (n - 1) / 16 * 16 in
    let marks = front_marked _ (n - at) at c.sixteen.result (omega arith) c.sixteen.ensures in
    rw (← array.same)
    (sym (instance_below c.in-Some.nums.now _ _ n (omega arith) c.rows-n.ensures
    ∙ last_unmarked _ (n - at) at n _ (omega arith) marks c.if-m-ne0.false ∙ sym c.find_below.ensures))
