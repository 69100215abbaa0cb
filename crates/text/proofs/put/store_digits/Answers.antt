use Rattle.std.proofs.Common.{◌/◌, refl, ◌∙◌, arith, length-set}
use Rattle.text.proofs.Digits.{length_more, length_pos}
use Rattle.text.proofs.Writes.{store_turn, store_last}
use Rattle.text.proofs.put.store_digits.Goals as goal

pub overflow_sub-p : goal.overflow_sub-p
overflow_sub-p c = omega (arith, length_pos c.args.x)

pub loop-v-init : goal.loop-v-init
loop-v-init c = (omega (arith, length_pos c.args.x), omega (arith, length_pos c.args.x), refl, refl)

pub overflow_sub-p-in-loop-v : goal.overflow_sub-p-in-loop-v
overflow_sub-p-in-loop-v c = omega (arith, length_more c.loop-v.v c.loop-v-test.true, length_pos (c.loop-v.v / 10))

pub loop-v-preserved : goal.loop-v-preserved
loop-v-preserved c =
    let l = c.loop-v in
    let m = length_more l.v c.loop-v-test.true in
    let n = length_pos (l.v / 10) in
    (omega arith, omega arith, simp length-set l.invariant.2, store_turn _ _ _ _ c.loop-v-test.true l.invariant.0 ∙ l.invariant.3)

pub returns : goal.returns
returns c = store_last _ _ _ _ c.loop-v-test.false c.loop-v.invariant.0 ∙ c.loop-v.invariant.3
