use mathlib.Core.Path.{refl}
use Prim.Native.Nat.{◌+◌}
use native.Mathlib.Omega.{arith}
use borrow.Author.Rules.{rules}
use lib.Pow.{pow_mono}
use Rattle.marks.specs.Marks.{marks_from}
use Rattle.marks.proofs.Lasts.{marks_lt}
use Rattle.lookup.specs.Find.{instance_is}
use Rattle.lookup.proofs.Gathered.{weight_next, row_marked}
use Rattle.lookup.proofs.find.sixteen.Goals as goal

pub loop-k-init : goal.loop-k-init
unfolding marks_from
loop-k-init c = (refl, refl)

-- the marks so far are a number of at most sixteen digits
pub overflow_add-m : goal.overflow_add-m
overflow_add-m c =
    let a = c.args in
    let k = c.loop-k.k in
    omega (
      arith,
      row_marked a.nums.now a.owner a.number a.at k _ _ _ (search rules) c.loop-k.invariant.0 c.loop-k.invariant.1 c.weight-m.ensures,
      marks_lt (instance_is a.nums.now a.owner a.number) (k + 1) a.at,
      pow_mono {i = k + 1} {j = 16} (search rules),
    )

pub loop-k-preserved : goal.loop-k-preserved
loop-k-preserved c =
    let a = c.args in (
      row_marked a.nums.now a.owner a.number a.at c.loop-k.k _ _ _ (search rules) c.loop-k.invariant.0 c.loop-k.invariant.1 c.weight-m.ensures,
      weight_next c.loop-k.k c.loop-k.w c.loop-k.invariant.1,
    )
